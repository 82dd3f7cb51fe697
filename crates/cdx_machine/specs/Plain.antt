-- Elements that are a text or a boolean, and records that are attributes and a text.
use Rattle.std.specs.Prelude.{◌≡◌, refl, true, ℕ, suc, ◌+◌, List, [], Option, Some, None, unwrap_or, Result, Ok, Err}
use Rattle.std.proofs.Common.{sym, ap, ◌∙◌, arith}
use Rattle.cdx_events.specs.declared.event.EventKind.TheVariants as kinds
use Rattle.cdx_events.specs.declared.name.OwnedAttribute.{OwnedAttribute}
use Rattle.cdx_events.specs.Nodes.{Nodes, no_nodes, node}
use Rattle.cdx_models.specs.declared.bom.SpecVersion.{SpecVersion}
use Rattle.cdx_models.specs.declared.errors.XmlReadError.{XmlReadError}
use Rattle.cdx_models.specs.Trees.{Name, Tree, Trees, none, text, fields, with_field}
use Rattle.cdx_schema.specs.Faults.{unexpected}
use Rattle.cdx_schema.specs.Kinds.{a_text, a_boolean, a_record}
use Rattle.cdx_schema.specs.Locality.{fault_place}
use Rattle.cdx_schema.specs.Results.{◌>>=◌}
use Rattle.cdx_schema.specs.Table.{rows}
use Rattle.cdx_events.specs.declared.name.OwnedName.{OwnedName}
use Rattle.cdx_events.specs.declared.name.Namespace.{Namespace}
use Rattle.cdx_events.specs.Nodes.{element}
use Rattle.cdx_schema.specs.Depth.{Depth}
use Rattle.cdx_schema.specs.Nodes.{places_of}
use Rattle.cdx_schema.specs.XmlTexts.{tree_of_text}
use Rattle.cdx_schema.specs.XmlReading.{one_text_alone, content_from, content_fields, simple_text, exact_text, parsed, attributes_read, in_force, ended, xread}
use Rattle.cdx_leaf.proofs.Contents.{HasContent, content_is}
use Rattle.cdx_schema.specs.Plain.{is_plain}
use Rattle.cdx_schema.proofs.FaultPlaces.{ok_err, err_same, attributes_place}
use Rattle.cdx_leaf.specs.Numbers.{value_read}
use Rattle.cdx_leaf.specs.Tags.{text_or_none}
use Rattle.cdx_machine.specs.Contents.{First, TextLast, IsContent}

abbrev pub no_fields : Trees
no_fields = none

-- A start that begins nothing.
abbrev pub nothing_first : First
nothing_first el a v p = Ok none

abbrev pub text_last : TextLast
text_last el q ts o = Ok (text (unwrap_or o []))

abbrev pub flag_last : TextLast
flag_last el q ts o = value_read a_boolean q el (unwrap_or o [])

abbrev pub attributes_first : Name → First
attributes_first name el a v p = attributes_read (rows name) (in_force name a) v el p

-- the record that attributes and a text are, which may be missing
abbrev pub record_last : Name → ℕ → TextLast
record_last name i el q ts o = Ok (fields name (with_field i (text (unwrap_or o [])) ts))

-- the same, where there has to be a text
abbrev pub exact_last : Name → ℕ → TextLast
exact_last name i el q ts None = Err (unexpected q el kinds.EndElement)
exact_last name i el q ts (Some s) = Ok (fields name (with_field i (text s) ts))

some_again : (r : Result (List ℕ) XmlReadError) → r ≡ ((r >>= λ s. Ok (Some s)) >>= λ o. Ok (unwrap_or o []))
some_again (Ok s) = refl
some_again (Err e) = refl

simple_is : (xs : Nodes) (el : List ℕ) (q : ℕ) → simple_text xs el q ≡ (text_or_none xs el q >>= λ o. Ok (unwrap_or o []))
simple_is no_nodes el q = refl
simple_is (node x xs) el q = some_again (simple_text (node x xs) el q)

then_again : {T : Type 0} (r : Result (Option (List ℕ)) XmlReadError) (f : List ℕ → Result T XmlReadError) → ((r >>= λ o. Ok (unwrap_or o [])) >>= f) ≡ (r >>= λ o. f (unwrap_or o []))
then_again (Ok o) f = refl
then_again (Err e) f = refl

-- one text at most, and then what it comes to
simple_then : {T : Type 0} (xs : Nodes) (el : List ℕ) (q : ℕ) (f : List ℕ → Result T XmlReadError) → (simple_text xs el q >>= f) ≡ (text_or_none xs el q >>= λ o. f (unwrap_or o []))
simple_then xs el q f = ap (λ r. r >>= f) (simple_is xs el q) ∙ then_again (text_or_none xs el q) f

pub text_content : {C : Type 0} → IsContent a_text nothing_first text_last (λ (c : C). no_fields)
unfolding xread
text_content = record { begun = λ c n a s xs v p d h. simple_then xs n.local_name (suc p) (λ t. Ok (text t)); fails_at_start = λ n a s xs v p d f h. ok_err h; first_place = λ el a v p f h. ok_err h; last_place = λ el q c o f h. ok_err h }

flag_place : (o : Option Tree) (el s : List ℕ) (q : ℕ) (f : XmlReadError) → parsed o q el s a_boolean ≡ Err f → fault_place f ≡ q
flag_place None el s q f h = ap fault_place (sym (err_same h))
flag_place (Some t) el s q f h = ok_err h

pub flag_content : {C : Type 0} → IsContent a_boolean nothing_first flag_last (λ (c : C). no_fields)
unfolding xread
flag_content = record {
  begun = λ c n a s xs v p d h. simple_then xs n.local_name (suc p) (λ t. value_read a_boolean (suc (p + places_of xs)) n.local_name t);
  fails_at_start = λ n a s xs v p d f h. ok_err h;
  first_place = λ el a v p f h. ok_err h;
  last_place = λ el q c o f h. flag_place (tree_of_text a_boolean (unwrap_or o [])) el (unwrap_or o []) q f h;
}

then_fields : (r : Result (List ℕ) XmlReadError) (ts : Trees) (name : Name) (i : ℕ) (v : SpecVersion) (el : List ℕ) (q : ℕ) → ((t : List ℕ) → ended (rows name) (with_field i (text t) ts) v el q ≡ Ok (with_field i (text t) ts))
    → ((r >>= λ s. let x : Trees × List ℕ = (ts, s) in Ok x) >>= λ x. ended (rows name) (with_field i (text x.1) x.0) v el q >>= λ us. Ok (fields name us)) ≡ (r >>= λ s. Ok (fields name (with_field i (text s) ts)))
then_fields (Ok s) ts name i v el q h = ap (λ r. r >>= λ us. Ok (fields name us)) (h s)
then_fields (Err e) ts name i v el q h = refl

-- what the attributes give, then a text
module _ {C : Type 0} (name : Name) (i : ℕ) (start : C → Trees) (read : Nodes → List ℕ → ℕ → Result (List ℕ) XmlReadError) (has : HasContent name i read) (plain : is_plain name ≡ true)
    (whole : (c : C) (t : List ℕ) (v : SpecVersion) (el : List ℕ) (q : ℕ) → ended (rows name) (with_field i (text t) (start c)) v el q ≡ Ok (with_field i (text t) (start c))) where
  record_begun : (c : C) (n : OwnedName) (a : List OwnedAttribute) (s : Namespace) (xs : Nodes) (v : SpecVersion) (p : ℕ) (d : Depth) → attributes_first name n.local_name a v p ≡ Ok (start c)
      → xread (element n a s xs) v (a_record name) p d ≡ (read xs n.local_name (suc p) >>= λ t. Ok (fields name (with_field i (text t) (start c))))
  record_begun c n a s xs v p d h =
      content_is name i read has plain v n a s d p xs
      ∙ (ap (λ r. (r >>= λ ts. read xs n.local_name (suc p) >>= λ s. let x : Trees × List ℕ = (ts, s) in Ok x) >>= λ x. ended (rows name) (with_field i (text x.1) x.0) v n.local_name (suc (p + places_of xs)) >>= λ us. Ok (fields name us)) h
      ∙ then_fields (read xs n.local_name (suc p)) (start c) name i v n.local_name (suc (p + places_of xs)) (λ t. whole c t v n.local_name (suc (p + places_of xs))))

  record_refused : (n : OwnedName) (a : List OwnedAttribute) (s : Namespace) (xs : Nodes) (v : SpecVersion) (p : ℕ) (d : Depth) (f : XmlReadError) → attributes_first name n.local_name a v p ≡ Err f → xread (element n a s xs) v (a_record name) p d ≡ Err f
  record_refused n a s xs v p d f h =
      content_is name i read has plain v n a s d p xs
      ∙ ap (λ r. (r >>= λ ts. read xs n.local_name (suc p) >>= λ s. let x : Trees × List ℕ = (ts, s) in Ok x) >>= λ x. ended (rows name) (with_field i (text x.1) x.0) v n.local_name (suc (p + places_of xs)) >>= λ us. Ok (fields name us)) h

pub record_content : {C : Type 0} (name : Name) (i : ℕ) (start : C → Trees) → HasContent name i (λ nodes el q. simple_text nodes el q) → is_plain name ≡ true
    → ((c : C) (t : List ℕ) (v : SpecVersion) (el : List ℕ) (q : ℕ) → ended (rows name) (with_field i (text t) (start c)) v el q ≡ Ok (with_field i (text t) (start c)))
    → IsContent (a_record name) (attributes_first name) (record_last name i) start
record_content name i start has plain whole = record {
  begun = λ c n a s xs v p d h. record_begun name i start (λ nodes el q. simple_text nodes el q) has plain whole c n a s xs v p d h ∙ simple_then xs n.local_name (suc p) (λ t. Ok (fields name (with_field i (text t) (start c))));
  fails_at_start = record_refused name i start (λ nodes el q. simple_text nodes el q) has plain whole;
  first_place = λ el a v p f h. attributes_place (rows name) (in_force name a) v el p f h;
  last_place = λ el q c o f h. ok_err h;
}

-- the text that stands right in the element of a record, where there has to be one
pub one_content : (name : Name) (i : ℕ) → content_from 0 (rows name) ≡ one_text_alone i → HasContent name i (λ nodes el q. exact_text nodes el q)
one_content name i is e ts v d = ap (λ c. content_fields c e name ts v d) is

exact_is : {T : Type 0} (xs : Nodes) (el : List ℕ) (q : ℕ) (k : ℕ) (g : List ℕ → T) (last : Option (List ℕ) → Result T XmlReadError) → k ≡ q + places_of xs → last None ≡ Err (unexpected k el kinds.EndElement) → ((t : List ℕ) → last (Some t) ≡ Ok (g t))
    → (exact_text xs el q >>= λ t. Ok (g t)) ≡ (text_or_none xs el q >>= last)
exact_is no_nodes el q k g last e h j = ap (λ z. Err (unexpected z el kinds.EndElement)) (at_end q) ∙ (ap (λ z. Err (unexpected z el kinds.EndElement)) (sym e) ∙ sym h)
  where
    at_end : (q : ℕ) → q ≡ q + 0
    at_end q = omega arith
exact_is (node x xs) el q k g last e h j = by (simple_text (node x xs) el q)
  where
    by : (r : Result (List ℕ) XmlReadError) → (r >>= λ t. Ok (g t)) ≡ ((r >>= λ s. Ok (Some s)) >>= last)
    by (Ok s) = sym (j s)
    by (Err f) = refl

pub exact_record_content : {C : Type 0} (name : Name) (i : ℕ) (start : C → Trees) → HasContent name i (λ nodes el q. exact_text nodes el q) → is_plain name ≡ true
    → ((c : C) (t : List ℕ) (v : SpecVersion) (el : List ℕ) (q : ℕ) → ended (rows name) (with_field i (text t) (start c)) v el q ≡ Ok (with_field i (text t) (start c)))
    → IsContent (a_record name) (attributes_first name) (exact_last name i) start
exact_record_content name i start has plain whole = record {
  begun = λ c n a s xs v p d h. record_begun name i start (λ nodes el q. exact_text nodes el q) has plain whole c n a s xs v p d h ∙ exact_is xs n.local_name (suc p) (suc (p + places_of xs)) (λ t. fields name (with_field i (text t) (start c))) (exact_last name i n.local_name (suc (p + places_of xs)) (start c)) (at_end p (places_of xs)) refl (λ t. refl);
  fails_at_start = record_refused name i start (λ nodes el q. exact_text nodes el q) has plain whole;
  first_place = λ el a v p f h. attributes_place (rows name) (in_force name a) v el p f h;
  last_place = λ el q c o f h. exact_place el q (start c) o f h;
}
  where
    at_end : (p k : ℕ) → suc (p + k) ≡ suc p + k
    at_end p k = omega arith

    exact_place : (el : List ℕ) (q : ℕ) (ts : Trees) (o : Option (List ℕ)) (f : XmlReadError) → exact_last name i el q ts o ≡ Err f → fault_place f ≡ q
    exact_place el q ts None f h = ap fault_place (sym (err_same h))
    exact_place el q ts (Some t) f h = ok_err h
