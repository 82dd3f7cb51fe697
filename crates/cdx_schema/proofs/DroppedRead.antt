-- A document that denotes something denotes the same without its empty texts, or lacks one text in an element that has to have one.
use Rattle.std.specs.Prelude.{◌≡◌, refl, ℕ, suc, ◌+◌, List, [], ◌∷◌, Bool, true, false, ◌&&◌, if◌then◌else◌, Option, Some, None, Result, Ok, Err, codes}
use Rattle.std.proofs.Common.{true≢false}
use Rattle.std.specs.Str.{bytes_eq, trim, trim_start, trim_end, chars}
use mathlib.Core.Path.{ap, sym, ◌∙◌}
use Rattle.cdx_models.specs.declared.bom.SpecVersion.{SpecVersion}
use Rattle.cdx_models.specs.Versions.{knows, namespace}
use Rattle.cdx_models.specs.Trees.{Name, license, expression, spdx_id, license_name, service_data, signer, bill, Tree, absent, text, number, fields, Trees, none, more, one, two, field, with_field, is_absent}
use Rattle.cdx_schema.specs.Kinds.{Kind, a_text, a_boolean, a_number, a_version, a_list, a_record, a_reference, a_license_choice, a_license_identifier, a_tools, a_data, an_entry, a_signature, a_bill, Rule, lax, strict, passing, Spelled, attribute, attribute_or, the_version, Row}
use Rattle.cdx_schema.specs.Table.{rows}
use Rattle.cdx_schema.specs.Results.{◌>>=◌}
use Rattle.cdx_events.specs.declared.event.EventKind.{EventKind}
use Rattle.cdx_models.specs.declared.errors.XmlReadError.{XmlReadError}
use Rattle.cdx_schema.specs.Faults.{unexpected, lacking, namespaced, nested}
use Rattle.cdx_schema.specs.Depth.{Depth, top, inside, name_too_deep}
use Rattle.cdx_models.specs.Entries.{entry_of}
use Rattle.cdx_schema.specs.JsonReading.{is_required}
use Rattle.cdx_schema.specs.XmlTexts.{boolean_of, number_of, boolean_tree, tree_of_text}
use Rattle.cdx_schema.specs.XmlReading.{ElementReading, Child, Plan, record_plan, plan_of_list, tools_plan, data_plan, signature_plan, no_plan, find_child, stored, stray, unknown, is_second, child_read_into, find_attribute, parsed, attribute_read, attribute_or_read, row_attribute, attributes_read, in_force, after_text, text_in, exact_text, TextContent, no_content, any_text, one_text_alone, content_from, name_owed, lacks, lacking_row, filled, ended, Element, end_of, text_read, number_alone, number_in, list_of, content_fields, record_so_far, record_denoted, tools_object_of, tools_of, data_of, signature_of, in_namespace, kind_read, xread, nodes_read, xml_denotes}
use Rattle.cdx_events.specs.EmptyTexts.{lean, lean_nodes}
use Rattle.cdx_schema.specs.Dropped.{earlier, if_nothing, record_hole, kind_hole, child_hole, hole, holes, unless}
use Rattle.cdx_events.specs.declared.event.EventKind.TheVariants as kinds
use Rattle.cdx_events.specs.declared.name.OwnedAttribute.{OwnedAttribute}
use Rattle.cdx_events.specs.declared.name.OwnedName.{OwnedName}
use Rattle.cdx_events.specs.declared.name.Namespace.{Namespace}
use Rattle.cdx_events.specs.Nodes.{Node, Nodes, cdata, characters, element, no_nodes, node}
use Rattle.cdx_schema.specs.Nodes.{places}

-- ---- results

fault_ok : {A B : Type 0} {e : XmlReadError} {x : A} → Rattle.std.specs.Prelude.◌≡◌ {A = Result A XmlReadError} (Err e) (Ok x) → B
fault_ok {A} {B} h = absurd (true≢false (sym (ap is_fine h)))
  where
    is_fine : Result A XmlReadError → Bool
    is_fine (Ok x) = true
    is_fine (Err e) = false

bind_ok : {A B C : Type 0} (r : Result A XmlReadError) (g : A → Result B XmlReadError) (t : B) → (r >>= g) ≡ Ok t → ((x : A) → r ≡ Ok x → g x ≡ Ok t → C) → C
bind_ok (Ok x) g t h k = k x refl h
bind_ok (Err e) g t h k = fault_ok h

unless_then : {A B : Type 0} (o : Option XmlReadError) (r : Result A XmlReadError) (x : A) (g : A → Result B XmlReadError) (t : B) → r ≡ unless o x → g x ≡ Ok t → (r >>= g) ≡ unless o t
unless_then None r x g t h k = ap (λ z. z >>= g) h ∙ k
unless_then (Some f) r x g t h k = ap (λ z. z >>= g) h

earlier_then : {A B : Type 0} (o u : Option XmlReadError) (r : Result A XmlReadError) (x : A) (g : A → Result B XmlReadError) (t : B) → r ≡ unless o x → g x ≡ unless u t → (r >>= g) ≡ unless (earlier o u) t
earlier_then None u r x g t h k = ap (λ z. z >>= g) h ∙ k
earlier_then (Some f) u r x g t h k = ap (λ z. z >>= g) h

-- ---- what is read does not depend on places

parsed_ok : (o : Option Tree) (p q : ℕ) (n s : List ℕ) (k : Kind) (t : Tree) → parsed o p n s k ≡ Ok t → parsed o q n s k ≡ Ok t
parsed_ok None p q n s k t h = fault_ok h
parsed_ok (Some u) p q n s k t h = h

attribute_ok : (o : Option (List ℕ)) (a : List ℕ) (r : Row) (v : SpecVersion) (n : List ℕ) (p q : ℕ) (t : Tree) → attribute_read o a r v n p ≡ Ok t → attribute_read o a r v n q ≡ Ok t
attribute_ok None a r v n p q t h = by (is_required r.need v) h
  where
    by : (b : Bool) → (if b then Err (lacking p n a) else Ok absent) ≡ Ok t → (if b then Err (lacking q n a) else Ok absent) ≡ Ok t
    by true e = fault_ok e
    by false e = e
attribute_ok (Some s) a r v n p q t h = parsed_ok (tree_of_text r.kind s) p q a s r.kind t h

attribute_or_ok : (o : Option (List ℕ)) (a : List ℕ) (m : ℕ) (r : Row) (p q : ℕ) (t : Tree) → attribute_or_read o a m r p ≡ Ok t → attribute_or_read o a m r q ≡ Ok t
attribute_or_ok None a m r p q t h = h
attribute_or_ok (Some s) a m r p q t h = parsed_ok (tree_of_text r.kind s) p q a s r.kind t h

known_ok : (b : Bool) (x y : Result Tree XmlReadError) (t : Tree) → (x ≡ Ok t → y ≡ Ok t) → (if b then x else Ok absent) ≡ Ok t → (if b then y else Ok absent) ≡ Ok t
known_ok true x y t f h = f h
known_ok false x y t f h = h

row_ok : (r : Row) (as' : List OwnedAttribute) (v : SpecVersion) (n : List ℕ) (p q : ℕ) (t : Tree) → row_attribute r as' v n p ≡ Ok t → row_attribute r as' v n q ≡ Ok t
row_ok r as' v n p q t h = by r.xml h
  where
    by : (x : Spelled) → row_attribute (record r { xml = x }) as' v n p ≡ Ok t → row_attribute (record r { xml = x }) as' v n q ≡ Ok t
    by (attribute a) g = known_ok (knows r.since v) (attribute_read (find_attribute a as') a (record r { xml = attribute a }) v n p) (attribute_read (find_attribute a as') a (record r { xml = attribute a }) v n q) t (attribute_ok (find_attribute a as') a (record r { xml = attribute a }) v n p q t) g
    by (attribute_or a m) g = known_ok (knows r.since v) (attribute_or_read (find_attribute a as') a m (record r { xml = attribute_or a m }) p) (attribute_or_read (find_attribute a as') a m (record r { xml = attribute_or a m }) q) t (attribute_or_ok (find_attribute a as') a m (record r { xml = attribute_or a m }) p q t) g
    by the_version g = g
    by _ g = g

attributes_ok : (rs : List Row) (as' : List OwnedAttribute) (v : SpecVersion) (n : List ℕ) (p q : ℕ) (ts : Trees) → attributes_read rs as' v n p ≡ Ok ts → attributes_read rs as' v n q ≡ Ok ts
unfolding attributes_read
attributes_ok [] as' v n p q ts h = h
attributes_ok (r ∷ rs) as' v n p q ts h =
    bind_ok (row_attribute r as' v n p) (λ t. attributes_read rs as' v n p >>= (λ us. Ok (more t us))) ts h
    (λ t i g. bind_ok (attributes_read rs as' v n p) (λ us. Ok (more t us)) ts g
    (λ us j k. ap (λ z. z >>= (λ u. attributes_read rs as' v n q >>= (λ vs. Ok (more u vs)))) (row_ok r as' v n p q t i)
    ∙ (ap (λ z. z >>= (λ vs. Ok (more t vs))) (attributes_ok rs as' v n p q us j) ∙ k)))

lacking_ok : (o : Option (List ℕ)) (n : List ℕ) (p q : ℕ) (us : Trees) → lacking_row o n p (Ok none) ≡ Ok us → lacking_row o n q (Ok none) ≡ Ok us
lacking_ok None n p q us h = h
lacking_ok (Some a) n p q us h = fault_ok h

either_ok : (b : Bool) (r r' s s' : Result Trees XmlReadError) (us : Trees) → (r ≡ Ok us → r' ≡ Ok us) → (s ≡ Ok us → s' ≡ Ok us) → (if b then r else s) ≡ Ok us → (if b then r' else s') ≡ Ok us
either_ok true r r' s s' us f g h = f h
either_ok false r r' s s' us f g h = g h

ended_ok : (rs : List Row) (ts : Trees) (v : SpecVersion) (n : List ℕ) (p q : ℕ) (us : Trees) → ended rs ts v n p ≡ Ok us → ended rs ts v n q ≡ Ok us
unfolding ended
ended_ok [] ts v n p q us h = h
ended_ok (r ∷ rs) none v n p q us h = h
ended_ok (r ∷ rs) (more t ts) v n p q us h =
    either_ok (lacks (name_owed r.xml) r t v) (lacking_row (name_owed r.xml) n p (Ok none)) (lacking_row (name_owed r.xml) n q (Ok none)) (ended rs ts v n p >>= (λ vs. Ok (more (filled r t) vs))) (ended rs ts v n q >>= (λ vs. Ok (more (filled r t) vs))) us
    (lacking_ok (name_owed r.xml) n p q us)
    (λ g. bind_ok (ended rs ts v n p) (λ vs. Ok (more (filled r t) vs)) us g (λ vs i j. ap (λ z. z >>= (λ ws. Ok (more (filled r t) ws))) (ended_ok rs ts v n p q vs i) ∙ j)) h

stray_ok : (r : Rule) (s : EventKind) (around : List ℕ) (p q : ℕ) (ts us : Trees) → stray r s around p ts ≡ Ok us → stray r s around q ts ≡ Ok us
stray_ok passing s around p q ts us h = h
stray_ok lax s around p q ts us h = fault_ok h
stray_ok strict s around p q ts us h = fault_ok h

-- a text that is passed over
stray_same : (r : Rule) (s : EventKind) (around : List ℕ) (p : ℕ) (ts us : Trees) (g : Trees → Result Trees XmlReadError) → (stray r s around p ts >>= g) ≡ Ok us → g ts ≡ Ok us
stray_same passing s around p ts us g h = h
stray_same lax s around p ts us g h = fault_ok h
stray_same strict s around p ts us g h = fault_ok h

unknown_ok : (r : Rule) (around : List ℕ) (p q : ℕ) (ts us : Trees) → unknown r around p ts ≡ Ok us → unknown r around q ts ≡ Ok us
unknown_ok passing around p q ts us h = h
unknown_ok lax around p q ts us h = h
unknown_ok strict around p q ts us h = fault_ok h

-- ---- texts

text_lean : (xs : Nodes) (n : List ℕ) (p q : ℕ) (s : List ℕ) → text_in (Ok []) xs n p ≡ Ok s → text_in (Ok []) (lean_nodes xs) n q ≡ Ok s
text_lean no_nodes n p q s h = h
text_lean (node (characters []) no_nodes) n p q s h = h
text_lean (node (characters (c ∷ t)) no_nodes) n p q s h = h
text_lean (node (cdata []) no_nodes) n p q s h = h
text_lean (node (cdata (c ∷ t)) no_nodes) n p q s h = h
text_lean (node (characters t) (node (characters u) xs)) n p q s h = fault_ok h
text_lean (node (characters t) (node (cdata u) xs)) n p q s h = fault_ok h
text_lean (node (characters t) (node (element m as' nsp ys) xs)) n p q s h = fault_ok h
text_lean (node (cdata t) (node (characters u) xs)) n p q s h = fault_ok h
text_lean (node (cdata t) (node (cdata u) xs)) n p q s h = fault_ok h
text_lean (node (cdata t) (node (element m as' nsp ys) xs)) n p q s h = fault_ok h
text_lean (node (element m as' nsp ys) xs) n p q s h = fault_ok h

exact_lean : (xs : Nodes) (n : List ℕ) (p q : ℕ) (s : List ℕ) → exact_text xs n p ≡ Ok s → exact_text (lean_nodes xs) n q ≡ unless (if_nothing (lean_nodes xs) (unexpected q n kinds.EndElement)) s
exact_lean no_nodes n p q s h = fault_ok h
exact_lean (node (characters []) no_nodes) n p q s h = refl
exact_lean (node (characters (c ∷ t)) no_nodes) n p q s h = h
exact_lean (node (cdata []) no_nodes) n p q s h = refl
exact_lean (node (cdata (c ∷ t)) no_nodes) n p q s h = h
exact_lean (node (characters t) (node (characters u) xs)) n p q s h = fault_ok h
exact_lean (node (characters t) (node (cdata u) xs)) n p q s h = fault_ok h
exact_lean (node (characters t) (node (element m as' nsp ys) xs)) n p q s h = fault_ok h
exact_lean (node (cdata t) (node (characters u) xs)) n p q s h = fault_ok h
exact_lean (node (cdata t) (node (cdata u) xs)) n p q s h = fault_ok h
exact_lean (node (cdata t) (node (element m as' nsp ys) xs)) n p q s h = fault_ok h
exact_lean (node (element m as' nsp ys) xs) n p q s h = fault_ok h

no_number : number_of (trim []) ≡ None
unfolding trim_start trim_end chars
no_number = refl

after_ok : (s : List ℕ) (xs : Nodes) (n : List ℕ) (p : ℕ) (u : List ℕ) → after_text s xs n p ≡ Ok u → xs ≡ no_nodes
after_ok s no_nodes n p u h = refl
after_ok s (node (characters t) xs) n p u h = fault_ok h
after_ok s (node (cdata t) xs) n p u h = fault_ok h
after_ok s (node (element m as' nsp ys) xs) n p u h = fault_ok h

alone_lean : (o : Option ℕ) (s : List ℕ) (xs : Nodes) (n : List ℕ) (p q : ℕ) (t : Tree) → number_alone o s xs n p ≡ Ok t → number_alone o s (lean_nodes xs) n q ≡ Ok t
alone_lean None s xs n p q t h = fault_ok h
alone_lean (Some m) s xs n p q t h = bind_ok (after_text s xs n (suc p)) (λ u. Ok (number m)) t h
    (λ u i j. ap (λ ys. after_text s ys n (suc q) >>= (λ w. Ok (number m))) (ap lean_nodes (after_ok s xs n (suc p) u i)) ∙ j)

nothing_alone : {C : Type 0} (o : Option ℕ) (s : List ℕ) (xs : Nodes) (n : List ℕ) (p : ℕ) (t : Tree) → o ≡ None → number_alone o s xs n p ≡ Ok t → C
nothing_alone o s xs n p t e h = fault_ok (sym (ap (λ u. number_alone u s xs n p) e) ∙ h)

number_lean : (xs : Nodes) (n : List ℕ) (p q : ℕ) (t : Tree) → number_in xs n p ≡ Ok t → number_in (lean_nodes xs) n q ≡ Ok t
number_lean no_nodes n p q t h = fault_ok h
number_lean (node (characters []) xs) n p q t h = nothing_alone (number_of (trim [])) [] xs n p t no_number h
number_lean (node (characters (c ∷ s)) xs) n p q t h = alone_lean (number_of (trim (c ∷ s))) (c ∷ s) xs n p q t h
number_lean (node (cdata []) xs) n p q t h = nothing_alone (number_of (trim [])) [] xs n p t no_number h
number_lean (node (cdata (c ∷ s)) xs) n p q t h = alone_lean (number_of (trim (c ∷ s))) (c ∷ s) xs n p q t h
number_lean (node (element m as' nsp ys) xs) n p q t h = fault_ok h

-- ---- one element beside the same without empty texts

abbrev Rd : Type 0
Rd = Plan → SpecVersion → Depth → Trees → Result Trees XmlReadError

abbrev elem : List ℕ → List OwnedAttribute → Option (List ℕ) → ℕ → Nodes → Rd → Element
elem n as' nsp s xs rd = record { name = n; attributes = as'; namespace = nsp; nodes = xs; start = s; read = rd }

module _ (n : List ℕ) (as' : List OwnedAttribute) (nsp : Option (List ℕ)) (p q : ℕ) (xs : Nodes) (rd rd' : Rd) (h : (plan : Plan) (v : SpecVersion) (d : Depth) (ts us : Trees) → rd plan v d ts ≡ Ok us → rd' plan v d ts ≡ unless (holes (lean_nodes xs) v (suc q) plan) us) where
  abbrev E : Element
  E = elem n as' nsp p xs rd

  abbrev F : Element
  F = elem n as' nsp q (lean_nodes xs) rd'

  abbrev H : SpecVersion → Plan → Option XmlReadError
  H v plan = holes (lean_nodes xs) v (suc q) plan

  abbrev K : Kind → SpecVersion → Option XmlReadError
  K k v = kind_hole k v n q (lean_nodes xs) (H v)

  abbrev R : Name → SpecVersion → Option XmlReadError
  R k v = record_hole (content_from 0 (rows k)) k v n q (lean_nodes xs) (H v)

  content_lean : (c : TextContent) (k : Name) (ts us : Trees) (v : SpecVersion) (d : Depth) → content_fields c E k ts v d ≡ Ok us → content_fields c F k ts v d ≡ unless (record_hole c k v n q (lean_nodes xs) (H v)) us
  content_lean no_content k ts us v d g = h (record_plan k) v d ts us g
  content_lean (any_text i) k ts us v d g = bind_ok (text_read E) (λ s. Ok (with_field i (text s) ts)) us g
      (λ s a b. ap (λ r. r >>= (λ z. Ok (with_field i (text z) ts))) (text_lean xs n (suc p) (suc q) s a) ∙ b)
  content_lean (one_text_alone i) k ts us v d g = bind_ok (exact_text xs n (suc p)) (λ s. Ok (with_field i (text s) ts)) us g
      (λ s a b. unless_then (if_nothing (lean_nodes xs) (unexpected (suc q) n kinds.EndElement)) (exact_text (lean_nodes xs) n (suc q)) s (λ z. Ok (with_field i (text z) ts)) us (exact_lean xs n (suc p) (suc q) s a) b)

  abbrev Ends : Element → Name → SpecVersion → Trees → Result Tree XmlReadError
  Ends e k v us = ended (rows k) us v e.name (end_of e) >>= (λ zs. Ok (fields k zs))

  ends_ok : (k : Name) (v : SpecVersion) (us : Trees) (t : Tree) → Ends E k v us ≡ Ok t → Ends F k v us ≡ Ok t
  ends_ok k v us t g = bind_ok (ended (rows k) us v n (end_of E)) (λ zs. Ok (fields k zs)) t g (λ zs i j. ap (λ r. r >>= (λ ys. Ok (fields k ys))) (ended_ok (rows k) us v n (end_of E) (end_of F) zs i) ∙ j)

  record_lean : (k : Name) (v : SpecVersion) (d : Depth) (t : Tree) → record_denoted E k v d ≡ Ok t → record_denoted F k v d ≡ unless (R k v) t
  record_lean k v d t g =
      bind_ok (record_so_far E k v (inside k d)) (Ends E k v) t g
      (λ us i z. bind_ok (attributes_read (rows k) (in_force k as') v n p) (λ ts. content_fields (content_from 0 (rows k)) E k ts v (inside k d)) us i
      (λ ts a c. unless_then (R k v) (record_so_far F k v (inside k d)) us (Ends F k v) t
      (ap (λ r. r >>= (λ ys. content_fields (content_from 0 (rows k)) F k ys v (inside k d))) (attributes_ok (rows k) (in_force k as') v n p q ts a) ∙ content_lean (content_from 0 (rows k)) k ts us v (inside k d) c)
      (ends_ok k v us t z)))

  deep_lean : (b : Bool) (k : Name) (v : SpecVersion) (d : Depth) (t : Tree) → (if b then Err (nested p) else record_denoted E k v d) ≡ Ok t → (if b then Err (nested q) else record_denoted F k v d) ≡ unless (R k v) t
  deep_lean true k v d t g = fault_ok g
  deep_lean false k v d t g = record_lean k v d t g

  either_lean : (b c : Bool) (j k : Name) (a : List ℕ) (v : SpecVersion) (d : Depth) (t : Tree) → (if b then record_denoted E j v d else (if c then record_denoted E k v d else Err (lacking p n a))) ≡ Ok t
      → (if b then record_denoted F j v d else (if c then record_denoted F k v d else Err (lacking q n a))) ≡ unless (if b then R j v else R k v) t
  either_lean true c j k a v d t g = record_lean j v d t g
  either_lean false true j k a v d t g = record_lean k v d t g
  either_lean false false j k a v d t g = fault_ok g

  root_lean : (b c : Bool) (e e' f f' : XmlReadError) (v : SpecVersion) (d : Depth) (t : Tree) → (if b then (if c then record_denoted E bill v d else Err e) else Err f) ≡ Ok t
      → (if b then (if c then record_denoted F bill v d else Err e') else Err f') ≡ unless (R bill v) t
  root_lean true true e e' f f' v d t g = record_lean bill v d t g
  root_lean true false e e' f f' v d t g = fault_ok g
  root_lean false c e e' f f' v d t g = fault_ok g

  abbrev reference_by : Rd → ℕ → SpecVersion → Depth → Option (List ℕ) → Result Tree XmlReadError
  reference_by r s v d None = Err (lacking s n (codes "ref"))
  reference_by r s v d (Some t) = r no_plan v d none >>= (λ ts. Ok (text t))

  reference_lean : (o : Option (List ℕ)) (v : SpecVersion) (d : Depth) (t : Tree) → reference_by rd p v d o ≡ Ok t → reference_by rd' q v d o ≡ unless (H v no_plan) t
  reference_lean None v d t g = fault_ok g
  reference_lean (Some s) v d t g = bind_ok (rd no_plan v d none) (λ ts. Ok (text s)) t g (λ ts i j. unless_then (H v no_plan) (rd' no_plan v d none) ts (λ z. Ok (text s)) t (h no_plan v d none ts i) j)

  abbrev tools_by : Element → SpecVersion → Trees → Tree → Result Tree XmlReadError
  tools_by e v ts absent = Ok (tools_object_of v ts)
  tools_by e v ts x = if is_absent (field 1 ts) && is_absent (field 2 ts) then Ok x else Err (lacking (end_of e) e.name (codes "tool array or services & components"))

  beside_ok : (b : Bool) (x t : Tree) (e e' : XmlReadError) → (if b then Ok x else Err e) ≡ Ok t → (if b then Ok x else Err e') ≡ Ok t
  beside_ok true x t e e' g = g
  beside_ok false x t e e' g = fault_ok g

  tools_ok : (v : SpecVersion) (ts : Trees) (x t : Tree) → tools_by E v ts x ≡ Ok t → tools_by F v ts x ≡ Ok t
  tools_ok v ts absent t g = g
  tools_ok v ts x t g = beside_ok (is_absent (field 1 ts) && is_absent (field 2 ts)) x t (lacking (end_of E) n (codes "tool array or services & components")) (lacking (end_of F) n (codes "tool array or services & components")) g

  abbrev signature_by : Element → SpecVersion → Trees → Tree → Result Tree XmlReadError
  signature_by e v ts absent = ended (rows signer) (two (field 1 ts) (field 2 ts)) v e.name (end_of e) >>= (λ us. Ok (fields signer us))
  signature_by e v ts x = Ok x

  signature_ok : (v : SpecVersion) (ts : Trees) (x t : Tree) → signature_by E v ts x ≡ Ok t → signature_by F v ts x ≡ Ok t
  signature_ok v ts absent t g = ends_ok signer v (two (field 1 ts) (field 2 ts)) t g
  signature_ok v ts x t g = g

  plan_lean : (plan : Plan) (v : SpecVersion) (d : Depth) (ts : Trees) (g g' : Trees → Result Tree XmlReadError) (t : Tree) → (rd plan v d ts >>= g) ≡ Ok t → ((us : Trees) → g us ≡ Ok t → g' us ≡ Ok t) → (rd' plan v d ts >>= g') ≡ unless (H v plan) t
  plan_lean plan v d ts g g' t z k = bind_ok (rd plan v d ts) g t z (λ us i j. unless_then (H v plan) (rd' plan v d ts) us g' t (h plan v d ts us i) (k us j))

  kind_lean : (v : SpecVersion) (k : Kind) (d : Depth) (t : Tree) → kind_read E v k d ≡ Ok t → kind_read F v k d ≡ unless (K k v) t
  kind_lean v a_text d t g = bind_ok (text_read E) (λ s. Ok (text s)) t g (λ s a b. ap (λ r. r >>= (λ z. Ok (text z))) (text_lean xs n (suc p) (suc q) s a) ∙ b)
  kind_lean v a_boolean d t g = bind_ok (text_read E) (λ s. parsed (boolean_tree (boolean_of s)) (end_of E) n s a_boolean) t g
      (λ s a b. ap (λ r. r >>= (λ z. parsed (boolean_tree (boolean_of z)) (end_of F) n z a_boolean)) (text_lean xs n (suc p) (suc q) s a) ∙ parsed_ok (boolean_tree (boolean_of s)) (end_of E) (end_of F) n s a_boolean t b)
  kind_lean v a_number d t g = number_lean xs n (suc p) (suc q) t g
  kind_lean v a_version d t g = fault_ok g
  kind_lean v (a_list l) d t g = plan_lean (plan_of_list l) v d (one absent) (λ ts. Ok (list_of (field 0 ts))) (λ ts. Ok (list_of (field 0 ts))) t g (λ us j. j)
  kind_lean v (a_record k) d t g = deep_lean (name_too_deep k d) k v d t g
  kind_lean v a_reference d t g = reference_lean (find_attribute (codes "ref") as') v d t g
  kind_lean v a_license_choice d t g = either_lean (bytes_eq n (codes "license")) (bytes_eq n (codes "expression")) license expression (codes "license or expression") v d t g
  kind_lean v a_license_identifier d t g = either_lean (bytes_eq n (codes "id")) (bytes_eq n (codes "name")) spdx_id license_name (codes "id or name") v d t g
  kind_lean v a_tools d t g = plan_lean tools_plan v d (more absent (two absent absent)) (λ ts. tools_of E v ts) (λ ts. tools_of F v ts) t g (λ us j. tools_ok v us (field 0 us) t j)
  kind_lean v a_data d t g = plan_lean data_plan v d (two absent absent) (λ ts. Ok (data_of ts)) (λ ts. Ok (data_of ts)) t g (λ us j. j)
  kind_lean v an_entry d t g = bind_ok (record_denoted E service_data v d) (λ z. Ok (entry_of z)) t g (λ u i j. unless_then (R service_data v) (record_denoted F service_data v d) u (λ z. Ok (entry_of z)) t (record_lean service_data v d u i) j)
  kind_lean v a_signature d t g = plan_lean signature_plan v d (more absent (two absent absent)) (λ ts. signature_of E v ts) (λ ts. signature_of F v ts) t g (λ us j. signature_ok v us (field 0 us) t j)
  kind_lean v a_bill d t g = root_lean (bytes_eq n (codes "bom")) (in_namespace nsp (namespace v)) (namespaced (namespace v) nsp) (namespaced (namespace v) nsp) (unexpected p (codes "bom") kinds.StartElement) (unexpected q (codes "bom") kinds.StartElement) v d t g

-- ---- nodes

child_lean : (o : Option Child) (r : Rule) (read read' : ElementReading) (look : Kind → Option XmlReadError) (around : List ℕ) (v : SpecVersion) (d : Depth) (p q : ℕ) (ts us : Trees)
    → ((k : Kind) (t : Tree) → read v k p d ≡ Ok t → read' v k q d ≡ unless (look k) t)
    → child_read_into o r read around v d p ts ≡ Ok us → child_read_into o r read' around v d q ts ≡ unless (child_hole o look) us
child_lean None r read read' look around v d p q ts us f h = unknown_ok r around p q ts us h
child_lean (Some c) r read read' look around v d p q ts us f h = by (is_second c.place (field c.field ts)) h
  where
    by : (b : Bool) → (if b then Err (unexpected p around kinds.StartElement) else (read v c.kind p d >>= (λ t. Ok (stored c.place c.field t ts)))) ≡ Ok us
        → (if b then Err (unexpected q around kinds.StartElement) else (read' v c.kind q d >>= (λ t. Ok (stored c.place c.field t ts)))) ≡ unless (look c.kind) us
    by true g = fault_ok g
    by false g = bind_ok (read v c.kind p d) (λ t. Ok (stored c.place c.field t ts)) us g (λ t i j. unless_then (look c.kind) (read' v c.kind q d) t (λ z. Ok (stored c.place c.field z ts)) us (f c.kind t i) j)

element_lean : (n : OwnedName) (as' : List OwnedAttribute) (nsp : Namespace) (xs : Nodes) (v : SpecVersion) (k : Kind) (p q : ℕ) (d : Depth) (t : Tree)
    → ((plan : Plan) (w : SpecVersion) (e : Depth) (ts us : Trees) → nodes_read xs plan n.local_name w e (suc p) ts ≡ Ok us → nodes_read (lean_nodes xs) plan n.local_name w e (suc q) ts ≡ unless (holes (lean_nodes xs) w (suc q) plan) us)
    → xread (element n as' nsp xs) v k p d ≡ Ok t → xread (element n as' nsp (lean_nodes xs)) v k q d ≡ unless (hole (element n as' nsp (lean_nodes xs)) v q k) t
unfolding xread hole
element_lean n as' nsp xs v k p q d t f h =
    kind_lean n.local_name as' nsp.default p q xs (λ plan w e ts. nodes_read xs plan n.local_name w e (suc p) ts) (λ plan w e ts. nodes_read (lean_nodes xs) plan n.local_name w e (suc q) ts) f v k d t h

nodes_lean : (xs : Nodes) (plan : Plan) (around : List ℕ) (v : SpecVersion) (d : Depth) (p q : ℕ) (ts us : Trees) → nodes_read xs plan around v d p ts ≡ Ok us
    → nodes_read (lean_nodes xs) plan around v d q ts ≡ unless (holes (lean_nodes xs) v q plan) us
unfolding xread hole
nodes_lean no_nodes plan around v d p q ts us h = h
nodes_lean (node (characters []) xs) plan around v d p q ts us h =
    nodes_lean xs plan around v d (p + 1) q ts us (stray_same plan.rule kinds.Characters around p ts us (λ ws. nodes_read xs plan around v d (p + 1) ws) h)
nodes_lean (node (cdata []) xs) plan around v d p q ts us h =
    nodes_lean xs plan around v d (p + 1) q ts us (stray_same plan.rule kinds.CData around p ts us (λ ws. nodes_read xs plan around v d (p + 1) ws) h)
nodes_lean (node (characters (c ∷ s)) xs) plan around v d p q ts us h =
    bind_ok (stray plan.rule kinds.Characters around p ts) (λ ws. nodes_read xs plan around v d (p + 1) ws) us h
    (λ ws i j. earlier_then None (holes (lean_nodes xs) v (q + 1) plan) (stray plan.rule kinds.Characters around q ts) ws (λ ys. nodes_read (lean_nodes xs) plan around v d (q + 1) ys) us
    (stray_ok plan.rule kinds.Characters around p q ts ws i) (nodes_lean xs plan around v d (p + 1) (q + 1) ws us j))
nodes_lean (node (cdata (c ∷ s)) xs) plan around v d p q ts us h =
    bind_ok (stray plan.rule kinds.CData around p ts) (λ ws. nodes_read xs plan around v d (p + 1) ws) us h
    (λ ws i j. earlier_then None (holes (lean_nodes xs) v (q + 1) plan) (stray plan.rule kinds.CData around q ts) ws (λ ys. nodes_read (lean_nodes xs) plan around v d (q + 1) ys) us
    (stray_ok plan.rule kinds.CData around p q ts ws i) (nodes_lean xs plan around v d (p + 1) (q + 1) ws us j))
nodes_lean (node (element n as' nsp zs) xs) plan around v d p q ts us h =
    bind_ok (child_read_into (find_child v n.local_name plan.children) plan.rule (xread (element n as' nsp zs)) around v d p ts) (λ ws. nodes_read xs plan around v d (p + places (element n as' nsp zs)) ws) us h
    (λ ws i j. earlier_then (child_hole (find_child v n.local_name plan.children) (hole (element n as' nsp (lean_nodes zs)) v q)) (holes (lean_nodes xs) v (q + places (element n as' nsp (lean_nodes zs))) plan)
    (child_read_into (find_child v n.local_name plan.children) plan.rule (xread (element n as' nsp (lean_nodes zs))) around v d q ts) ws (λ ys. nodes_read (lean_nodes xs) plan around v d (q + places (element n as' nsp (lean_nodes zs))) ys) us
    (child_lean (find_child v n.local_name plan.children) plan.rule (xread (element n as' nsp zs)) (xread (element n as' nsp (lean_nodes zs))) (hole (element n as' nsp (lean_nodes zs)) v q) around v d p q ts ws
    (λ k t g. element_lean n as' nsp zs v k p q d t (λ pl w e as'' bs. nodes_lean zs pl n.local_name w e (suc p) (suc q) as'' bs) g) i)
    (nodes_lean xs plan around v d (p + places (element n as' nsp zs)) (q + places (element n as' nsp (lean_nodes zs))) ws us j))

-- What denotes something denotes the same without empty texts, or lacks one text.
pub lean_denotes : (x : Node) (v : SpecVersion) (t : Tree) → xml_denotes x v ≡ Ok t → xml_denotes (lean x) v ≡ unless (hole (lean x) v 1 a_bill) t
unfolding xread hole
lean_denotes (characters s) v t h = fault_ok h
lean_denotes (cdata s) v t h = fault_ok h
lean_denotes (element n as' nsp xs) v t h = element_lean n as' nsp xs v a_bill 1 1 top t (λ pl w e ts us. nodes_lean xs pl n.local_name w e 2 2 ts us) h
