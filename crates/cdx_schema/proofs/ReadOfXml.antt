-- What is read of an element as a kind is of that kind, and shallow. Q is what is asked of a text.
use Rattle.std.specs.Prelude.{◌≡◌, refl, ℕ, zero, suc, ◌+◌, ◌<◌, ◌^◌, List, [], ◌∷◌, ◌++◌, reverse, Bool, true, false, ◌&&◌, nat_lt, if◌then◌else◌, ◌⊎◌, ◌==◌, Option, Some, None, Result, Ok, Err, codes}
use Rattle.std.proofs.Common.{true≢false, inl, inr}
use Rattle.std.specs.Str.{bytes_eq, trim}
use Rattle.std.proofs.lemmas.Grind.{reverse_onto}
use mathlib.Core.Path.{ap, sym, ◌∙◌, subst}
use Rattle.cdx_models.specs.declared.bom.SpecVersion.{SpecVersion}
use Rattle.cdx_models.specs.declared.bom.SpecVersion.TheVariants.{V1_3, V1_4, V1_5}
use Rattle.cdx_models.specs.Versions.{knows, label, namespace}
use Rattle.cdx_models.specs.Trees.{Name, hash, attached_text, license, expression, spdx_id, license_name, classification, service_data, signer, signers, chain, bill, Tree, absent, text, number, boolean, items, fields, Trees, none, more, one, two, ◌⧺◌, field, with_field, is_absent}
use Rattle.cdx_schema.specs.Kinds.{Lists, licenses, components, services, tool_list, classifications, Kind, a_text, a_boolean, a_number, a_version, a_list, a_record, a_reference, a_license_choice, a_license_identifier, a_tools, a_data, an_entry, a_signature, a_bill, Rule, lax, strict, passing, Spelled, attribute, attribute_or, content, one_text, as_cdata, child, filled_child, children, either_child, the_version, Need, optional, required, required_first, else_empty, Row}
use Rattle.cdx_schema.specs.Table.{rows, list}
use Rattle.cdx_schema.specs.Held.{held_kind}
use Rattle.cdx_schema.specs.Results.{◌>>=◌}
use Rattle.cdx_events.specs.declared.event.EventKind.{EventKind}
use Rattle.cdx_models.specs.declared.errors.XmlReadError.{XmlReadError}
use Rattle.cdx_schema.specs.Faults.{unexpected, lacking, namespaced, nested}
use Rattle.cdx_schema.specs.Depth.{Depth, top, inside, name_too_deep}
use Rattle.cdx_models.specs.Entries.{entry_of}
use Rattle.cdx_schema.specs.JsonReading.{is_required}
use Rattle.cdx_schema.specs.XmlTexts.{boolean_of, number_of, boolean_tree, number_tree, tree_of_text, below_2_32, digits_of}
use Rattle.cdx_schema.specs.XmlReading.{ElementReading, Place, last, once, all, Child, Plan, row_children, children_from, record_plan, plan_of_list, tools_plan, data_plan, signature_plan, no_plan, find_child, appended, stored, stray, unknown, is_second, child_read_into, node_read, find_attribute, parsed, attribute_read, attribute_or_read, row_attribute, attributes_read, in_force, after_text, text_in, simple_text, exact_text, TextContent, no_content, any_text, one_text_alone, content_from, name_owed, lacks, lacking_row, filled, ended, Element, end_of, text_read, boolean_read, number_alone, number_in, list_of, list_read, content_fields, record_so_far, record_denoted, reference_read, choice_read, identifier_read, tools_object_of, tools_of, data_of, signature_of, tools_read, data_read, signature_read, in_namespace, bill_read, kind_read, xread, nodes_read, xml_denotes}
use Rattle.cdx_schema.specs.Keeping.{is_shallow, are_shallow}
use Rattle.cdx_schema.specs.Membership.{Never, IsOfAll, AreOfAll, IsListKind, may_lack}
use Rattle.cdx_schema.specs.Texts.{AttributeTexts, NodeTexts, NodesTexts}
use Rattle.cdx_schema.proofs.JsonBack.{and_true, err_ok}
use Rattle.cdx_schema.proofs.HeldKept.{label_is}
use Rattle.cdx_schema.proofs.XmlLaw.{is_list_kind}
use Rattle.cdx_schema.proofs.Sound.{both}
use Rattle.cdx_schema.proofs.KeptOf.{class_entry, of_there, IsFieldAll}
use Rattle.cdx_schema.proofs.ReadOf.{empty_list, ok_same, bind_ok, IsReadOf, AreRead, IsRecordRead, flat_is, flow_entry}
use Rattle.std.specs.Prelude.{is_some}
use native.Mathlib.Omega.{arith}
use Rattle.cdx_schema.proofs.Sound.{sound_since}
use Rattle.cdx_schema.proofs.KeptOf.{lacks_since}
use Rattle.cdx_events.specs.declared.event.EventKind.TheVariants as kinds
use Rattle.cdx_events.specs.declared.name.OwnedAttribute.{OwnedAttribute}
use Rattle.cdx_events.specs.Nodes.{Node, Nodes, cdata, characters, element, no_nodes, node}
use Rattle.cdx_schema.specs.Nodes.{places}
use Rattle.cdx_schema.proofs.Basics.{some_same, true_lt}

-- ---- fields that are being read: each absent or of its kind

abbrev SlotOf : (Q : List ℕ → Type 0) → Kind → Depth → Tree → Type 0
SlotOf Q k d t = ((t ≡ absent) ⊎ IsOfAll Q t k) × (is_shallow t d ≡ true)

abbrev AreSlots : (Q : List ℕ → Type 0) → Trees → List Kind → Depth → Type 0
AreSlots Q none [] d = Unit {0}
AreSlots Q (more t ts) (k ∷ ks) d = SlotOf Q k d t × AreSlots Q ts ks d
AreSlots Q none (k ∷ ks) d = Never
AreSlots Q (more t ts) [] d = Never

abbrev kind_at : ℕ → List Kind → Kind
kind_at i [] = a_text
kind_at zero (k ∷ ks) = k
kind_at (suc i) (k ∷ ks) = kind_at i ks

absent_slot : (Q : List ℕ → Type 0) (k : Kind) (d : Depth) → SlotOf Q k d absent
unfolding is_shallow
absent_slot Q k d = (inl refl, refl)

slot_of : (Q : List ℕ → Type 0) (k : Kind) (d : Depth) (t : Tree) → IsReadOf Q k d t → SlotOf Q k d t
slot_of Q k d t h = (inr h.0, h.1)

slot_at : (Q : List ℕ → Type 0) (i : ℕ) (ts : Trees) (ks : List Kind) (d : Depth) → AreSlots Q ts ks d → SlotOf Q (kind_at i ks) d (field i ts)
slot_at Q i none [] d h = absent_slot Q a_text d
slot_at Q zero (more t ts) (k ∷ ks) d h = h.0
slot_at Q (suc i) (more t ts) (k ∷ ks) d h = slot_at Q i ts ks d h.1
slot_at Q i none (k ∷ ks) d h = absurd (true≢false h)
slot_at Q i (more t ts) [] d h = absurd (true≢false h)

with_slot : (Q : List ℕ → Type 0) (i : ℕ) (u : Tree) (ts : Trees) (ks : List Kind) (d : Depth) → AreSlots Q ts ks d → SlotOf Q (kind_at i ks) d u → AreSlots Q (with_field i u ts) ks d
with_slot Q i u none [] d h s = tt
with_slot Q zero u (more t ts) (k ∷ ks) d h s = (s, h.1)
with_slot Q (suc i) u (more t ts) (k ∷ ks) d h s = (h.0, with_slot Q i u ts ks d h.1 s)
with_slot Q i u none (k ∷ ks) d h s = absurd (true≢false h)
with_slot Q i u (more t ts) [] d h s = absurd (true≢false h)

-- the fields that are there
abbrev Present : Trees → List Bool → Type 0
Present none bs = Unit {0}
Present (more t ts) [] = Unit {0}
Present (more t ts) (b ∷ bs) = (b ≡ true → is_absent t ≡ false) × Present ts bs

with_present : (i : ℕ) (u : Tree) (ts : Trees) (bs : List Bool) → is_absent u ≡ false → Present ts bs → Present (with_field i u ts) bs
with_present i u none bs a h = tt
with_present zero u (more t ts) [] a h = tt
with_present (suc i) u (more t ts) [] a h = tt
with_present zero u (more t ts) (b ∷ bs) a h = (λ e. a, h.1)
with_present (suc i) u (more t ts) (b ∷ bs) a h = (h.0, with_present i u ts bs a h.1)

abbrev flag_at : ℕ → List Bool → List Bool
flag_at i [] = []
flag_at zero (b ∷ bs) = true ∷ bs
flag_at (suc i) (b ∷ bs) = b ∷ flag_at i bs

now_present : (i : ℕ) (u : Tree) (ts : Trees) (bs : List Bool) → is_absent u ≡ false → Present ts bs → Present (with_field i u ts) (flag_at i bs)
now_present i u none bs a h = tt
now_present zero u (more t ts) [] a h = tt
now_present (suc i) u (more t ts) [] a h = tt
now_present zero u (more t ts) (b ∷ bs) a h = (λ e. a, h.1)
now_present (suc i) u (more t ts) (b ∷ bs) a h = (h.0, now_present i u ts bs a h.1)

-- ---- children

abbrev GoodAt : (Q : List ℕ → Type 0) → Place → Kind → Kind → Type 0
GoodAt Q last k s = (t : Tree) → IsOfAll Q t k → IsOfAll Q t s
GoodAt Q once k s = (t : Tree) → IsOfAll Q t k → IsOfAll Q t s
GoodAt Q all k s = IsListKind s × ((t : Tree) → IsOfAll Q t k → IsOfAll Q t (held_kind s))

abbrev GoodChild : (Q : List ℕ → Type 0) → Child → List Kind → Type 0
GoodChild Q c ks = GoodAt Q c.place c.kind (kind_at c.field ks)

abbrev GoodChildren : (Q : List ℕ → Type 0) → List Child → List Kind → Type 0
GoodChildren Q [] ks = Unit {0}
GoodChildren Q (c ∷ cs) ks = GoodChild Q c ks × GoodChildren Q cs ks

append_of : (Q : List ℕ → Type 0) (ts : Trees) (t : Tree) (k : Kind) → AreOfAll Q ts k → IsOfAll Q t k → AreOfAll Q (ts ⧺ one t) k
append_of Q none t k h g = (g, tt)
append_of Q (more u ts) t k h g = (h.0, append_of Q ts t k h.1 g)

append_shallow : (ts : Trees) (t : Tree) (d : Depth) → are_shallow ts d ≡ true → is_shallow t d ≡ true → are_shallow (ts ⧺ one t) d ≡ true
unfolding is_shallow
append_shallow none t d h g = both (is_shallow t d) true g refl
append_shallow (more u ts) t d h g =
    let p : (is_shallow u d ≡ true) × (are_shallow ts d ≡ true) = and_true (is_shallow u d) (are_shallow ts d) h in
    both (is_shallow u d) (are_shallow (ts ⧺ one t) d) p.0 (append_shallow ts t d p.1 g)

alone : (Q : List ℕ → Type 0) (t : Tree) (s : Kind) (d : Depth) → IsListKind s → IsOfAll Q t (held_kind s) → is_shallow t d ≡ true → IsReadOf Q s d (items (one t))
unfolding is_shallow
alone Q t s d l h e = ((l, (h, tt)), both (is_shallow t d) true e refl)

appended_slot : (Q : List ℕ → Type 0) (u t : Tree) (s : Kind) (d : Depth) → IsListKind s → SlotOf Q s d u → IsOfAll Q t (held_kind s) → is_shallow t d ≡ true → IsReadOf Q s d (appended u t)
unfolding is_shallow
appended_slot Q (items ts) t s d l (inr h, e) g f = ((l, append_of Q ts t (held_kind s) h.1 g), append_shallow ts t d e f)
appended_slot Q (items ts) t s d l (inl h, e) g f = absurd (true≢false (sym (ap is_absent h)))
appended_slot Q _ t s d l h g f = alone Q t s d l g f

-- Both: the kinds of all rows, and the fields that are there.
abbrev Holds : (Q : List ℕ → Type 0) → Trees → List Kind → List Bool → Depth → Type 0
Holds Q ts ks bs d = AreSlots Q ts ks d × Present ts bs

set_holds : (Q : List ℕ → Type 0) (i : ℕ) (u : Tree) (ts : Trees) (ks : List Kind) (bs : List Bool) (d : Depth) → Holds Q ts ks bs d → IsReadOf Q (kind_at i ks) d u → Holds Q (with_field i u ts) ks bs d
set_holds Q i u ts ks bs d h r = (with_slot Q i u ts ks d h.0 (slot_of Q (kind_at i ks) d u r), with_present i u ts bs (of_there Q u (kind_at i ks) r.0) h.1)

stored_holds : (Q : List ℕ → Type 0) (p : Place) (i : ℕ) (k : Kind) (t : Tree) (ts : Trees) (ks : List Kind) (bs : List Bool) (d : Depth) → GoodAt Q p k (kind_at i ks) → Holds Q ts ks bs d → IsReadOf Q k d t → Holds Q (stored p i t ts) ks bs d
stored_holds Q last i k t ts ks bs d g h r = set_holds Q i t ts ks bs d h (g t r.0, r.1)
stored_holds Q once i k t ts ks bs d g h r = set_holds Q i t ts ks bs d h (g t r.0, r.1)
stored_holds Q all i k t ts ks bs d g h r = set_holds Q i (appended (field i ts) t) ts ks bs d h (appended_slot Q (field i ts) t (kind_at i ks) d g.0 (slot_at Q i ts ks d h.0) (g.1 t r.0) r.1)

-- ---- nodes

abbrev Good : (Q : List ℕ → Type 0) → ElementReading → Type 0
Good Q read = (v : SpecVersion) (k : Kind) (p : ℕ) (d : Depth) (t : Tree) → read v k p d ≡ Ok t → IsReadOf Q k d t

stray_holds : (r : Rule) (s : EventKind) (around : List ℕ) (p : ℕ) (ts us : Trees) → stray r s around p ts ≡ Ok us → ts ≡ us
stray_holds passing s around p ts us e = ok_same e
stray_holds lax s around p ts us e = absurd (err_ok e)
stray_holds strict s around p ts us e = absurd (err_ok e)

unknown_holds : (r : Rule) (around : List ℕ) (p : ℕ) (ts us : Trees) → unknown r around p ts ≡ Ok us → ts ≡ us
unknown_holds strict around p ts us e = absurd (err_ok e)
unknown_holds lax around p ts us e = ok_same e
unknown_holds passing around p ts us e = ok_same e

if_was : {A F : Type 0} (b : Bool) (f : F) (r : Result A F) (y : A) → (if b then Err f else r) ≡ Ok y → (b ≡ false) × (r ≡ Ok y)
if_was true f r y e = absurd (err_ok e)
if_was false f r y e = (refl, e)

abbrev GoodSome : (Q : List ℕ → Type 0) → Option Child → List Kind → Type 0
GoodSome Q None ks = Unit {0}
GoodSome Q (Some c) ks = GoodChild Q c ks

find_good : (Q : List ℕ → Type 0) (v : SpecVersion) (s : List ℕ) (cs : List Child) (ks : List Kind) → GoodChildren Q cs ks → GoodSome Q (find_child v s cs) ks
find_good Q v s [] ks h = tt
find_good Q v s (c ∷ cs) ks h = by (bytes_eq s c.name && knows c.since v) (find_good Q v s cs ks h.1)
  where
    by : (b : Bool) → GoodSome Q (find_child v s cs) ks → GoodSome Q (if b then Some c else find_child v s cs) ks
    by true g = h.0
    by false g = g

child_holds : (Q : List ℕ → Type 0) (o : Option Child) (r : Rule) (read : ElementReading) (around : List ℕ) (v : SpecVersion) (d : Depth) (p : ℕ) (ts us : Trees) (ks : List Kind) (bs : List Bool) → GoodSome Q o ks → Good Q read → Holds Q ts ks bs d
    → child_read_into o r read around v d p ts ≡ Ok us → Holds Q us ks bs d
child_holds Q None r read around v d p ts us ks bs g f h e = subst (λ (x : Trees). Holds Q x ks bs d) (unknown_holds r around p ts us e) h
child_holds Q (Some c) r read around v d p ts us ks bs g f h e =
    let a : (is_second c.place (field c.field ts) ≡ false) × ((read v c.kind p d >>= (λ t. Ok (stored c.place c.field t ts))) ≡ Ok us) =
    if_was (is_second c.place (field c.field ts)) (unexpected p around kinds.StartElement) (read v c.kind p d >>= (λ t. Ok (stored c.place c.field t ts))) us e in
    let x : (t : Tree) × (read v c.kind p d ≡ Ok t) × (Ok (stored c.place c.field t ts) ≡ Ok us) = bind_ok (read v c.kind p d) (λ t. Ok (stored c.place c.field t ts)) us a.1 in
    subst (λ (y : Trees). Holds Q y ks bs d) (ok_same x.2) (stored_holds Q c.place c.field c.kind x.0 ts ks bs d g h (f v c.kind p d x.0 x.1))

node_holds : (Q : List ℕ → Type 0) (x : Node) (read : ElementReading) (plan : Plan) (around : List ℕ) (v : SpecVersion) (d : Depth) (p : ℕ) (ts us : Trees) (ks : List Kind) (bs : List Bool) → GoodChildren Q plan.children ks → Good Q read → Holds Q ts ks bs d
    → node_read x read plan around v d p ts ≡ Ok us → Holds Q us ks bs d
node_holds Q (characters s) read plan around v d p ts us ks bs g f h e = subst (λ (x : Trees). Holds Q x ks bs d) (stray_holds plan.rule _ around p ts us e) h
node_holds Q (cdata s) read plan around v d p ts us ks bs g f h e = subst (λ (x : Trees). Holds Q x ks bs d) (stray_holds plan.rule _ around p ts us e) h
node_holds Q (element n as' default xs) read plan around v d p ts us ks bs g f h e = child_holds Q (find_child v n.local_name plan.children) plan.rule read around v d p ts us ks bs (find_good Q v n.local_name plan.children ks g) f h e

-- ---- texts

TextSome : (Q : List ℕ → Type 0) → Option (List ℕ) → Type 0
TextSome Q None = Unit {0}
TextSome Q (Some s) = Q s

find_texts : (Q : List ℕ → Type 0) (q : List ℕ) (as' : List OwnedAttribute) → AttributeTexts Q as' → TextSome Q (find_attribute q as')
unfolding TextSome
find_texts Q q [] h = tt
find_texts Q q (a ∷ as') h = by (bytes_eq a.name.local_name q) (find_texts Q q as' h.1)
  where
    by : (b : Bool) → TextSome Q (find_attribute q as') → TextSome Q (if b then Some a.value else find_attribute q as')
    by true g = h.0
    by false g = g

append_texts : (Q : List ℕ → Type 0) (xs ys : List OwnedAttribute) → AttributeTexts Q xs → AttributeTexts Q ys → AttributeTexts Q (xs ++ ys)
append_texts Q [] ys h g = g
append_texts Q (x ∷ xs) ys h g = (h.0, append_texts Q xs ys h.1 g)

reverse_texts : (Q : List ℕ → Type 0) (xs : List OwnedAttribute) → AttributeTexts Q xs → AttributeTexts Q (reverse xs)
reverse_texts Q [] h = tt
reverse_texts Q (x ∷ xs) h = subst (AttributeTexts Q) (sym (reverse_onto xs x [])) (append_texts Q (reverse xs) (x ∷ []) (reverse_texts Q xs h.1) (h.0, tt))

force_texts : (Q : List ℕ → Type 0) (n : Name) (as' : List OwnedAttribute) → AttributeTexts Q as' → AttributeTexts Q (in_force n as')
force_texts Q attached_text as' h = reverse_texts Q as' h
force_texts Q _ as' h = h

after_was : (s : List ℕ) (xs : Nodes) (around : List ℕ) (p : ℕ) (t : List ℕ) → after_text s xs around p ≡ Ok t → s ≡ t
after_was s no_nodes around p t e = ok_same e
after_was s (node (characters x) xs) around p t e = absurd (err_ok e)
after_was s (node (cdata x) xs) around p t e = absurd (err_ok e)
after_was s (node (element n as' default ys) xs) around p t e = absurd (err_ok e)

text_in_good : (Q : List ℕ → Type 0) (o : Result (List ℕ) XmlReadError) (xs : Nodes) (around : List ℕ) (p : ℕ) (t : List ℕ) → (o ≡ Ok t → Q t) → NodesTexts Q xs → text_in o xs around p ≡ Ok t → Q t
text_in_good Q o no_nodes around p t f u e = f e
text_in_good Q o (node (characters x) xs) around p t f u e = subst Q (after_was x xs around (suc p) t e) u.0
text_in_good Q o (node (cdata x) xs) around p t f u e = subst Q (after_was x xs around (suc p) t e) u.0
text_in_good Q o (node (element n as' default ys) xs) around p t f u e = absurd (err_ok e)

simple_good : (Q : List ℕ → Type 0) → Q [] → (xs : Nodes) (around : List ℕ) (p : ℕ) (t : List ℕ) → NodesTexts Q xs → simple_text xs around p ≡ Ok t → Q t
simple_good Q nil xs around p t u e = text_in_good Q (Ok []) xs around p t (λ h. subst Q (ok_same h) nil) u e

exact_good : (Q : List ℕ → Type 0) (xs : Nodes) (around : List ℕ) (p : ℕ) (t : List ℕ) → NodesTexts Q xs → exact_text xs around p ≡ Ok t → Q t
exact_good Q xs around p t u e = text_in_good Q (Err (unexpected p around kinds.EndElement)) xs around p t (λ h. absurd (err_ok h)) u e

-- ---- leaves

pub none_some : {A B : Type 0} {y : A} → None ≡ Some y → B
none_some h = absurd (true≢false (sym (ap is_some h)))

below_is : (o : Option ℕ) (n : ℕ) → below_2_32 o ≡ Some n → n < 2 ^ 32
below_is None n h = none_some h
below_is (Some m) n h = by (nat_lt m (2 ^ 32)) refl h
  where
    by : (b : Bool) → nat_lt m (2 ^ 32) ≡ b → (if b then Some m else None) ≡ Some n → n < 2 ^ 32
    by true f g = subst (λ (i : ℕ). i < 2 ^ 32) (some_same g) (true_lt m (2 ^ 32) f)
    by false f g = none_some g

number_below : (s : List ℕ) (n : ℕ) → number_of s ≡ Some n → n < 2 ^ 32
number_below [] n h = none_some h
number_below (c ∷ cs) n h = by (c == 43) h
  where
    by : (b : Bool) → (if b then below_2_32 (digits_of cs) else below_2_32 (digits_of (c ∷ cs))) ≡ Some n → n < 2 ^ 32
    by true g = below_is (digits_of cs) n g
    by false g = below_is (digits_of (c ∷ cs)) n g

number_leaf : (Q : List ℕ → Type 0) (o : Option ℕ) (d : Depth) (t : Tree) → ((n : ℕ) → o ≡ Some n → n < 2 ^ 32) → number_tree o ≡ Some t → IsReadOf Q a_number d t
unfolding is_shallow
number_leaf Q None d t f h = none_some h
number_leaf Q (Some n) d t f h = subst (λ (x : Tree). IsReadOf Q a_number d x) (some_same h) (f n refl, refl)

boolean_leaf : (Q : List ℕ → Type 0) (o : Option Bool) (d : Depth) (t : Tree) → boolean_tree o ≡ Some t → IsReadOf Q a_boolean d t
unfolding is_shallow
boolean_leaf Q None d t h = none_some h
boolean_leaf Q (Some b) d t h = subst (λ (x : Tree). IsReadOf Q a_boolean d x) (some_same h) (tt, refl)

abbrev is_leaf : Kind → Bool
is_leaf a_text = true
is_leaf a_boolean = true
is_leaf a_number = true
is_leaf _ = false

leaf_good : (Q : List ℕ → Type 0) (k : Kind) (s : List ℕ) (d : Depth) (t : Tree) → is_leaf k ≡ true → Q s → tree_of_text k s ≡ Some t → IsReadOf Q k d t
unfolding is_shallow
leaf_good Q a_text s d t l u h = subst (λ (x : Tree). IsReadOf Q a_text d x) (some_same h) (u, refl)
leaf_good Q a_boolean s d t l u h = boolean_leaf Q (boolean_of s) d t h
leaf_good Q a_number s d t l u h = number_leaf Q (number_of s) d t (number_below s) h
leaf_good Q _ s d t l u h = absurd (true≢false (sym l))

parsed_was : (o : Option Tree) (p : ℕ) (name s : List ℕ) (k : Kind) (t : Tree) → parsed o p name s k ≡ Ok t → o ≡ Some t
parsed_was None p name s k t e = absurd (err_ok e)
parsed_was (Some x) p name s k t e = ap Some (ok_same e)

-- ---- attributes

abbrev is_number_kind : Kind → Bool
is_number_kind a_number = true
is_number_kind _ = false

abbrev is_version_kind : Kind → Bool
is_version_kind a_version = true
is_version_kind _ = false

abbrev is_text_kind : Kind → Bool
is_text_kind a_text = true
is_text_kind _ = false

abbrev is_plain_need : Need → Bool
is_plain_need optional = true
is_plain_need required = true
is_plain_need _ = false

abbrev is_not_else : Need → Bool
is_not_else else_empty = false
is_not_else _ = true

abbrev reads_xml : Spelled → Need → Kind → Bool
reads_xml (attribute q) n k = is_leaf k && is_plain_need n
reads_xml (attribute_or q m) n k = nat_lt m (2 ^ 32) && is_number_kind k
reads_xml the_version n k = is_version_kind k
reads_xml (children q) n k = is_list_kind k
reads_xml (child q) n k = is_not_else n
reads_xml (filled_child q) n k = is_not_else n
reads_xml (either_child q m) n k = is_not_else n
reads_xml _ n k = true

abbrev all_xml : List Row → Bool
all_xml [] = true
all_xml (r ∷ rs) = (sound_since r.since r.need r.kind && reads_xml r.xml r.need r.kind) && all_xml rs

reads_rows : (n : Name) → all_xml (rows n) ≡ true
unfolding rows
reads_rows hash = refl
reads_rows _ = refl

row_parts : (r : Row) (rs : List Row) → all_xml (r ∷ rs) ≡ true → (sound_since r.since r.need r.kind ≡ true) × (reads_xml r.xml r.need r.kind ≡ true) × (all_xml rs ≡ true)
row_parts r rs h =
    let p : ((sound_since r.since r.need r.kind && reads_xml r.xml r.need r.kind) ≡ true) × (all_xml rs ≡ true) = and_true (sound_since r.since r.need r.kind && reads_xml r.xml r.need r.kind) (all_xml rs) h in
    let q : (sound_since r.since r.need r.kind ≡ true) × (reads_xml r.xml r.need r.kind ≡ true) = and_true (sound_since r.since r.need r.kind) (reads_xml r.xml r.need r.kind) p.0 in
    (q.0, q.1, p.1)

abbrev row_kinds : List Row → List Kind
row_kinds [] = []
row_kinds (r ∷ rs) = r.kind ∷ row_kinds rs

-- whether a field is there once the attributes are read
abbrev flag_by : Bool → Spelled → Need → SpecVersion → Bool
flag_by b (attribute q) n v = b && is_required n v
flag_by b (attribute_or q m) n v = b
flag_by b the_version n v = b
flag_by b _ n v = false

abbrev flags : List Row → SpecVersion → List Bool
flags [] v = []
flags (r ∷ rs) v = flag_by (knows r.since v) r.xml r.need v ∷ flags rs v

abbrev Attributed : (Q : List ℕ → Type 0) → Kind → Depth → Bool → Tree → Type 0
Attributed Q k d b t = SlotOf Q k d t × (b ≡ true → is_absent t ≡ false)

absent_attributed : (Q : List ℕ → Type 0) (k : Kind) (d : Depth) (b : Bool) (t : Tree) → b ≡ false → absent ≡ t → Attributed Q k d b t
absent_attributed Q k d b t h e = subst (λ (x : Tree). Attributed Q k d b x) e (absent_slot Q k d, λ g. absurd (true≢false (sym g ∙ h)))

read_attributed : (Q : List ℕ → Type 0) (k : Kind) (d : Depth) (b : Bool) (t : Tree) → IsReadOf Q k d t → Attributed Q k d b t
read_attributed Q k d b t h = (slot_of Q k d t h, λ e. of_there Q t k h.0)

attribute_good : (Q : List ℕ → Type 0) (o : Option (List ℕ)) (q : List ℕ) (r : Row) (v : SpecVersion) (around : List ℕ) (p : ℕ) (d : Depth) (t : Tree) → TextSome Q o → is_leaf r.kind ≡ true → attribute_read o q r v around p ≡ Ok t → Attributed Q r.kind d (is_required r.need v) t
unfolding TextSome
attribute_good Q None q r v around p d t u l e =
    let a : (is_required r.need v ≡ false) × (Ok absent ≡ Ok t) = if_was (is_required r.need v) (lacking p around q) (Ok absent) t e in
    absent_attributed Q r.kind d (is_required r.need v) t a.0 (ok_same a.1)
attribute_good Q (Some s) q r v around p d t u l e = read_attributed Q r.kind d (is_required r.need v) t (leaf_good Q r.kind s d t l u (parsed_was (tree_of_text r.kind s) p q s r.kind t e))

number_default : (Q : List ℕ → Type 0) (k : Kind) (m : ℕ) (d : Depth) (t : Tree) → nat_lt m (2 ^ 32) ≡ true → is_number_kind k ≡ true → number m ≡ t → IsReadOf Q k d t
unfolding is_shallow
number_default Q a_number m d t lt h e = subst (λ (x : Tree). IsReadOf Q a_number d x) e (true_lt m (2 ^ 32) lt, refl)
number_default Q _ m d t lt h e = absurd (true≢false (sym h))

number_kind_leaf : (k : Kind) → is_number_kind k ≡ true → is_leaf k ≡ true
number_kind_leaf a_number h = refl
number_kind_leaf _ h = absurd (true≢false (sym h))

attribute_or_good : (Q : List ℕ → Type 0) (o : Option (List ℕ)) (q : List ℕ) (m : ℕ) (r : Row) (p : ℕ) (d : Depth) (t : Tree) → TextSome Q o → nat_lt m (2 ^ 32) ≡ true → is_number_kind r.kind ≡ true → attribute_or_read o q m r p ≡ Ok t → IsReadOf Q r.kind d t
unfolding TextSome
attribute_or_good Q None q m r p d t u lt l e = number_default Q r.kind m d t lt l (ok_same e)
attribute_or_good Q (Some s) q m r p d t u lt l e = leaf_good Q r.kind s d t (number_kind_leaf r.kind l) u (parsed_was (tree_of_text r.kind s) p q s r.kind t e)

version_good : (Q : List ℕ → Type 0) (k : Kind) (v : SpecVersion) (d : Depth) (t : Tree) → is_version_kind k ≡ true → text (label v) ≡ t → IsReadOf Q k d t
unfolding is_shallow
version_good Q a_version v d t h e = subst (λ (x : Tree). IsReadOf Q a_version d x) e (label_is v, refl)
version_good Q _ v d t h e = absurd (true≢false (sym h))

-- What a row gives where the version knows it, and elsewhere.
known_attributed : (Q : List ℕ → Type 0) (b : Bool) (k : Kind) (d : Depth) (f : Bool) (g : Result Tree XmlReadError) (t : Tree) → (b ≡ true → g ≡ Ok t → Attributed Q k d f t) → (b ≡ false → f ≡ false) → (if b then g else Ok absent) ≡ Ok t → Attributed Q k d f t
known_attributed Q true k d f g t there gone e = there refl e
known_attributed Q false k d f g t there gone e = absent_attributed Q k d f t (gone refl) (ok_same e)

and_known : (b c : Bool) → b ≡ false → (b && c) ≡ false
and_known true c h = absurd (true≢false h)
and_known false c h = refl

known_and : (Q : List ℕ → Type 0) (k : Kind) (d : Depth) (b c : Bool) (t : Tree) → b ≡ true → Attributed Q k d c t → Attributed Q k d (b && c) t
known_and Q k d true c t h a = a
known_and Q k d false c t h a = absurd (true≢false (sym h))

row_attributed : (Q : List ℕ → Type 0) (r : Row) (as' : List OwnedAttribute) (v : SpecVersion) (around : List ℕ) (p : ℕ) (d : Depth) (t : Tree) → AttributeTexts Q as' → reads_xml r.xml r.need r.kind ≡ true → row_attribute r as' v around p ≡ Ok t
    → Attributed Q r.kind d (flag_by (knows r.since v) r.xml r.need v) t
row_attributed Q r as' v around p d t u h e = by r.xml h e
  where
    by : (x : Spelled) → reads_xml x r.need r.kind ≡ true → row_attribute (record r { xml = x }) as' v around p ≡ Ok t → Attributed Q r.kind d (flag_by (knows r.since v) x r.need v) t
    by (attribute q) g f = known_attributed Q (knows r.since v) r.kind d (knows r.since v && is_required r.need v) (attribute_read (find_attribute q as') q (record r { xml = attribute q }) v around p) t
        (λ k o. known_and Q r.kind d (knows r.since v) (is_required r.need v) t k (attribute_good Q (find_attribute q as') q (record r { xml = attribute q }) v around p d t (find_texts Q q as' u) (and_true (is_leaf r.kind) (is_plain_need r.need) g).0 o))
        (λ k. and_known (knows r.since v) (is_required r.need v) k) f
    by (attribute_or q m) g f = let a : (nat_lt m (2 ^ 32) ≡ true) × (is_number_kind r.kind ≡ true) = and_true (nat_lt m (2 ^ 32)) (is_number_kind r.kind) g in
        known_attributed Q (knows r.since v) r.kind d (knows r.since v) (attribute_or_read (find_attribute q as') q m (record r { xml = attribute_or q m }) p) t
        (λ k o. read_attributed Q r.kind d (knows r.since v) t (attribute_or_good Q (find_attribute q as') q m (record r { xml = attribute_or q m }) p d t (find_texts Q q as' u) a.0 a.1 o)) (λ k. k) f
    by the_version g f = known_attributed Q (knows r.since v) r.kind d (knows r.since v) (Ok (text (label v))) t
        (λ k o. read_attributed Q r.kind d (knows r.since v) t (version_good Q r.kind v d t g (ok_same o))) (λ k. k) f
    by _ g f = absent_attributed Q r.kind d false t refl (ok_same f)

attributes_hold : (Q : List ℕ → Type 0) (rs : List Row) (as' : List OwnedAttribute) (v : SpecVersion) (around : List ℕ) (p : ℕ) (d : Depth) (ts : Trees) → AttributeTexts Q as' → all_xml rs ≡ true → attributes_read rs as' v around p ≡ Ok ts → Holds Q ts (row_kinds rs) (flags rs v) d
unfolding attributes_read
attributes_hold Q [] as' v around p d ts u h e = subst (λ (x : Trees). Holds Q x [] [] d) (ok_same e) (tt, tt)
attributes_hold Q (r ∷ rs) as' v around p d ts u h e =
    let x : (t : Tree) × (row_attribute r as' v around p ≡ Ok t) × ((attributes_read rs as' v around p >>= (λ us. Ok (more t us))) ≡ Ok ts) = bind_ok (row_attribute r as' v around p) (λ t. attributes_read rs as' v around p >>= (λ us. Ok (more t us))) ts e in
    let y : (us : Trees) × (attributes_read rs as' v around p ≡ Ok us) × (Ok (more x.0 us) ≡ Ok ts) = bind_ok (attributes_read rs as' v around p) (λ us. Ok (more x.0 us)) ts x.2 in
    let a : Attributed Q r.kind d (flag_by (knows r.since v) r.xml r.need v) x.0 = row_attributed Q r as' v around p d x.0 u (row_parts r rs h).1 x.1 in
    let b : Holds Q y.0 (row_kinds rs) (flags rs v) d = attributes_hold Q rs as' v around p d y.0 u (row_parts r rs h).2 y.1 in
    subst (λ (z : Trees). Holds Q z (row_kinds (r ∷ rs)) (flags (r ∷ rs) v) d) (ok_same y.2) ((a.0, b.0), (a.1, b.1))

-- ---- the end of a record

abbrev last_flag_by : Bool → Spelled → Need → SpecVersion → Bool
last_flag_by b content n v = true
last_flag_by b one_text n v = true
last_flag_by b as_cdata n v = true
last_flag_by b x n v = flag_by b x n v

abbrev last_flags : List Row → SpecVersion → List Bool
last_flags [] v = []
last_flags (r ∷ rs) v = last_flag_by (knows r.since v) r.xml r.need v ∷ last_flags rs v

lacks_was : {A : Type 0} (o : Option (List ℕ)) (r : Row) (t : Tree) (v : SpecVersion) (b : Bool) (around : List ℕ) (p : ℕ) (rest : Result Trees XmlReadError) (us : Trees) → lacks o r t v ≡ b
    → (if b then lacking_row o around p (Ok none) else rest) ≡ Ok us → ((b ≡ false) → rest ≡ Ok us → A) → A
lacks_was None r t v true around p rest us h e f = absurd (true≢false (sym h))
lacks_was (Some q) r t v true around p rest us h e f = absurd (err_ok e)
lacks_was o r t v false around p rest us h e f = f refl e

three : (a b c : Bool) → (b && (a && c)) ≡ false → a ≡ true → c ≡ true → b ≡ false
three true true true h p q = absurd (true≢false h)
three true true false h p q = absurd (true≢false (sym q))
three true false c h p q = refl
three false b c h p q = absurd (true≢false (sym p))

-- A row that isn't owed may lack its field.
not_owed : (n : Need) (v : SpecVersion) → is_not_else n ≡ true → is_required n v ≡ false → may_lack n ≡ true
not_owed optional v e h = refl
not_owed required v e h = absurd (true≢false h)
not_owed required_first v e h = refl
not_owed else_empty v e h = absurd (true≢false (sym e))

child_lacks : (b : Bool) (r : Row) (v : SpecVersion) → knows r.since v ≡ b → sound_since r.since r.need r.kind ≡ true → is_not_else r.need ≡ true → (is_required r.need v && (knows r.since v && is_absent absent)) ≡ false → may_lack r.need ≡ true
child_lacks true r v k s e h = not_owed r.need v e (three (knows r.since v) (is_required r.need v) true h k refl)
child_lacks false r v k s e h = lacks_since r.since r.need r.kind v s k

attribute_lacks : (b : Bool) (r : Row) (v : SpecVersion) → knows r.since v ≡ b → sound_since r.since r.need r.kind ≡ true → is_plain_need r.need ≡ true → ((b && is_required r.need v) ≡ true → true ≡ false) → may_lack r.need ≡ true
attribute_lacks false r v k s e h = lacks_since r.since r.need r.kind v s k
attribute_lacks true r v k s e h = by r.need e h
  where
    by : (n : Need) → is_plain_need n ≡ true → ((true && is_required n v) ≡ true → true ≡ false) → may_lack n ≡ true
    by optional f g = refl
    by required f g = absurd (true≢false (g refl))
    by required_first f g = absurd (true≢false (sym f))
    by else_empty f g = absurd (true≢false (sym f))

known_lacks : (b : Bool) (r : Row) (v : SpecVersion) → knows r.since v ≡ b → sound_since r.since r.need r.kind ≡ true → (b ≡ true → true ≡ false) → may_lack r.need ≡ true
known_lacks false r v k s h = lacks_since r.since r.need r.kind v s k
known_lacks true r v k s h = absurd (true≢false (h refl))

filled_there : (r : Row) (t : Tree) → is_absent t ≡ false → filled r t ≡ t
filled_there r t h = by r.xml r.need t h
  where
    by : (x : Spelled) (n : Need) (u : Tree) → is_absent u ≡ false → filled (record r { xml = x; need = n }) u ≡ u
    by (children q) required absent g = absurd (true≢false g)
    by (children q) else_empty absent g = absurd (true≢false g)
    by _ n u g = refl

abbrev Ended : (Q : List ℕ → Type 0) → Row → Depth → Tree → Type 0
Ended Q r d t = IsFieldAll Q t r × (is_shallow t d ≡ true)

children_ended : (Q : List ℕ → Type 0) (n : Need) (q : List ℕ) (r : Row) (d : Depth) → is_list_kind r.kind ≡ true → (((filled (record r { xml = children q; need = n }) absent ≡ absent) × (may_lack n ≡ true)) ⊎ IsOfAll Q (filled (record r { xml = children q; need = n }) absent) r.kind) × (is_shallow (filled (record r { xml = children q; need = n }) absent) d ≡ true)
unfolding is_shallow
children_ended Q optional q r d l = (inl (refl, refl), refl)
children_ended Q required_first q r d l = (inl (refl, refl), refl)
children_ended Q required q r d l = (inr (empty_list Q r.kind d l).0, (empty_list Q r.kind d l).1)
children_ended Q else_empty q r d l = (inr (empty_list Q r.kind d l).0, (empty_list Q r.kind d l).1)

absent_ended : (Q : List ℕ → Type 0) (r : Row) (v : SpecVersion) (d : Depth) → sound_since r.since r.need r.kind ≡ true → reads_xml r.xml r.need r.kind ≡ true → lacks (name_owed r.xml) r absent v ≡ false
    → (last_flag_by (knows r.since v) r.xml r.need v ≡ true → true ≡ false) → Ended Q r d (filled r absent)
unfolding is_shallow
absent_ended Q r v d s h l f = by r.xml h l f
  where
    by : (x : Spelled) → reads_xml x r.need r.kind ≡ true → lacks (name_owed x) r absent v ≡ false → (last_flag_by (knows r.since v) x r.need v ≡ true → true ≡ false)
        → (((filled (record r { xml = x }) absent ≡ absent) × (may_lack r.need ≡ true)) ⊎ IsOfAll Q (filled (record r { xml = x }) absent) r.kind) × (is_shallow (filled (record r { xml = x }) absent) d ≡ true)
    by (attribute q) g o e = (inl (refl, attribute_lacks (knows r.since v) r v refl s (and_true (is_leaf r.kind) (is_plain_need r.need) g).1 e), refl)
    by (attribute_or q m) g o e = (inl (refl, known_lacks (knows r.since v) r v refl s e), refl)
    by the_version g o e = (inl (refl, known_lacks (knows r.since v) r v refl s e), refl)
    by (child q) g o e = (inl (refl, child_lacks (knows r.since v) r v refl s g o), refl)
    by (filled_child q) g o e = (inl (refl, child_lacks (knows r.since v) r v refl s g o), refl)
    by (either_child q m) g o e = (inl (refl, child_lacks (knows r.since v) r v refl s g o), refl)
    by (children q) g o e = children_ended Q r.need q r d g
    by _ g o e = absurd (true≢false (e refl))

row_ended : (Q : List ℕ → Type 0) (r : Row) (v : SpecVersion) (d : Depth) (t : Tree) → sound_since r.since r.need r.kind ≡ true → reads_xml r.xml r.need r.kind ≡ true → SlotOf Q r.kind d t → lacks (name_owed r.xml) r t v ≡ false
    → (last_flag_by (knows r.since v) r.xml r.need v ≡ true → is_absent t ≡ false) → Ended Q r d (filled r t)
row_ended Q r v d t s h (inr is, sh) l f = subst (λ (x : Tree). Ended Q r d x) (sym (filled_there r t (of_there Q t r.kind is))) (inr is, sh)
row_ended Q r v d t s h (inl is, sh) l f = subst (λ (x : Tree). Ended Q r d (filled r x)) (sym is) (absent_ended Q r v d s h (sym (ap (λ x. lacks (name_owed r.xml) r x v) is) ∙ l) (λ e. sym (ap is_absent is) ∙ f e))

pub ended_good : (Q : List ℕ → Type 0) (rs : List Row) (ts : Trees) (v : SpecVersion) (around : List ℕ) (p : ℕ) (d : Depth) (us : Trees) → all_xml rs ≡ true → Holds Q ts (row_kinds rs) (last_flags rs v) d → ended rs ts v around p ≡ Ok us → AreRead Q rs d us
unfolding ended is_shallow
ended_good Q [] ts v around p d us h holds e = subst (λ (x : Trees). AreRead Q [] d x) (ok_same e) (tt, refl)
ended_good Q (r ∷ rs) none v around p d us h holds e = absurd (true≢false holds.0)
ended_good Q (r ∷ rs) (more t ts) v around p d us h holds e =
    lacks_was (name_owed r.xml) r t v (lacks (name_owed r.xml) r t v) around p (ended rs ts v around p >>= (λ zs. Ok (more (filled r t) zs))) us refl e (λ l o.
    let x : (zs : Trees) × (ended rs ts v around p ≡ Ok zs) × (Ok (more (filled r t) zs) ≡ Ok us) = bind_ok (ended rs ts v around p) (λ zs. Ok (more (filled r t) zs)) us o in
    let a : Ended Q r d (filled r t) = row_ended Q r v d t (row_parts r rs h).0 (row_parts r rs h).1 holds.0.0 l holds.1.0 in
    let b : AreRead Q rs d x.0 = ended_good Q rs ts v around p d x.0 (row_parts r rs h).2 (holds.0.1, holds.1.1) x.1 in
    subst (λ (z : Trees). AreRead Q (r ∷ rs) d z) (ok_same x.2) ((a.0, b.0), both (is_shallow (filled r t) d) (are_shallow x.0 d) a.1 b.1))

-- ---- plans

good_append : (Q : List ℕ → Type 0) (xs ys : List Child) (ks : List Kind) → GoodChildren Q xs ks → GoodChildren Q ys ks → GoodChildren Q (xs ++ ys) ks
good_append Q [] ys ks h g = g
good_append Q (x ∷ xs) ys ks h g = (h.0, good_append Q xs ys ks h.1 g)

list_kind_of : (k : Kind) → is_list_kind k ≡ true → IsListKind k
list_kind_of (a_list l) h = tt
list_kind_of _ h = absurd (true≢false (sym h))

abbrev same_kind : (Q : List ℕ → Type 0) → {k s : Kind} → s ≡ k → (t : Tree) → IsOfAll Q t k → IsOfAll Q t s
same_kind Q e t h = subst (λ (x : Kind). IsOfAll Q t x) (sym e) h

row_children_good : (Q : List ℕ → Type 0) (i : ℕ) (r : Row) (ks : List Kind) → reads_xml r.xml r.need r.kind ≡ true → kind_at i ks ≡ r.kind → GoodChildren Q (row_children i r) ks
row_children_good Q i r ks h e = by r.xml h
  where
    by : (x : Spelled) → reads_xml x r.need r.kind ≡ true → GoodChildren Q (row_children i (record r { xml = x })) ks
    by (child q) g = (same_kind Q e, tt)
    by (filled_child q) g = (same_kind Q e, tt)
    by (children q) g = (subst (λ (s : Kind). IsListKind s × ((t : Tree) → IsOfAll Q t (held_kind r.kind) → IsOfAll Q t (held_kind s))) (sym e) (list_kind_of r.kind g, λ t f. f), tt)
    by (either_child q m) g = (same_kind Q e, (same_kind Q e, tt))
    by _ g = tt

plus_none : (i : ℕ) → i + 0 ≡ i
plus_none i = omega arith

none_plus : (j : ℕ) → 0 + j ≡ j
none_plus j = omega arith

plus_one : (i j : ℕ) → suc i + j ≡ i + suc j
plus_one i j = omega arith

children_good : (Q : List ℕ → Type 0) (i : ℕ) (rs : List Row) (ks : List Kind) → all_xml rs ≡ true → ((j : ℕ) → kind_at (i + j) ks ≡ kind_at j (row_kinds rs)) → GoodChildren Q (children_from i rs) ks
children_good Q i [] ks h f = tt
children_good Q i (r ∷ rs) ks h f = good_append Q (row_children i r) (children_from (suc i) rs) ks
    (row_children_good Q i r ks (row_parts r rs h).1 (ap (λ j. kind_at j ks) (sym (plus_none i)) ∙ f 0))
    (children_good Q (suc i) rs ks (row_parts r rs h).2 (λ j. ap (λ m. kind_at m ks) (plus_one i j) ∙ f (suc j)))

plan_good : (Q : List ℕ → Type 0) (n : Name) → GoodChildren Q (children_from 0 (rows n)) (row_kinds (rows n))
plan_good Q n = children_good Q 0 (rows n) (row_kinds (rows n)) (reads_rows n) (λ j. ap (λ m. kind_at m (row_kinds (rows n))) (none_plus j))

-- ---- elements

abbrev ReadGood : (Q : List ℕ → Type 0) → Element → Type 0
ReadGood Q e = (plan : Plan) (ks : List Kind) (bs : List Bool) (v : SpecVersion) (d : Depth) (ts us : Trees) → GoodChildren Q plan.children ks → Holds Q ts ks bs d → e.read plan v d ts ≡ Ok us → Holds Q us ks bs d

abbrev GoodElement : (Q : List ℕ → Type 0) → Element → Type 0
GoodElement Q e = ReadGood Q e × AttributeTexts Q e.attributes × NodesTexts Q e.nodes × Q []

abbrev at_end : TextContent → List Bool → List Bool
at_end no_content bs = bs
at_end (any_text i) bs = flag_at i bs
at_end (one_text_alone i) bs = flag_at i bs

abbrev is_text_at : TextContent → List Kind → Bool
is_text_at no_content ks = true
is_text_at (any_text i) ks = is_text_kind (kind_at i ks)
is_text_at (one_text_alone i) ks = is_text_kind (kind_at i ks)

texts_at : (n : Name) → is_text_at (content_from 0 (rows n)) (row_kinds (rows n)) ≡ true
unfolding rows
texts_at hash = refl
texts_at _ = refl

flags_end : (n : Name) (v : SpecVersion) → at_end (content_from 0 (rows n)) (flags (rows n) v) ≡ last_flags (rows n) v
unfolding rows
flags_end hash v = refl
flags_end _ v = refl

text_kind_read : (Q : List ℕ → Type 0) (k : Kind) (s : List ℕ) (d : Depth) → is_text_kind k ≡ true → Q s → IsReadOf Q k d (text s)
unfolding is_shallow
text_kind_read Q a_text s d h u = (u, refl)
text_kind_read Q _ s d h u = absurd (true≢false (sym h))

text_set : (Q : List ℕ → Type 0) (i : ℕ) (s : List ℕ) (ts us : Trees) (ks : List Kind) (bs : List Bool) (d : Depth) → is_text_kind (kind_at i ks) ≡ true → Q s → Holds Q ts ks bs d → with_field i (text s) ts ≡ us → Holds Q us ks (flag_at i bs) d
text_set Q i s ts us ks bs d h u holds e = subst (λ (x : Trees). Holds Q x ks (flag_at i bs) d) e
    (with_slot Q i (text s) ts ks d holds.0 (slot_of Q (kind_at i ks) d (text s) (text_kind_read Q (kind_at i ks) s d h u)), now_present i (text s) ts bs refl holds.1)

content_good : (Q : List ℕ → Type 0) (c : TextContent) (e : Element) (n : Name) (ts us : Trees) (v : SpecVersion) (bs : List Bool) (d : Depth) → GoodElement Q e → is_text_at c (row_kinds (rows n)) ≡ true → Holds Q ts (row_kinds (rows n)) bs d
    → content_fields c e n ts v d ≡ Ok us → Holds Q us (row_kinds (rows n)) (at_end c bs) d
content_good Q no_content e n ts us v bs d g h holds o = g.0 (record_plan n) (row_kinds (rows n)) bs v d ts us (plan_good Q n) holds o
content_good Q (any_text i) e n ts us v bs d g h holds o =
    let x : (s : List ℕ) × (text_read e ≡ Ok s) × (Ok (with_field i (text s) ts) ≡ Ok us) = bind_ok (text_read e) (λ s. Ok (with_field i (text s) ts)) us o in
    text_set Q i x.0 ts us (row_kinds (rows n)) bs d h (simple_good Q g.3 e.nodes e.name (suc e.start) x.0 g.2 x.1) holds (ok_same x.2)
content_good Q (one_text_alone i) e n ts us v bs d g h holds o =
    let x : (s : List ℕ) × (exact_text e.nodes e.name (suc e.start) ≡ Ok s) × (Ok (with_field i (text s) ts) ≡ Ok us) = bind_ok (exact_text e.nodes e.name (suc e.start)) (λ s. Ok (with_field i (text s) ts)) us o in
    text_set Q i x.0 ts us (row_kinds (rows n)) bs d h (exact_good Q e.nodes e.name (suc e.start) x.0 g.2 x.1) holds (ok_same x.2)

record_good : (Q : List ℕ → Type 0) (e : Element) (n : Name) (v : SpecVersion) (d : Depth) (t : Tree) → GoodElement Q e → record_denoted e n v d ≡ Ok t → IsRecordRead Q n (inside n d) t
record_good Q e n v d t g o =
    let x : (us : Trees) × (record_so_far e n v (inside n d) ≡ Ok us) × ((ended (rows n) us v e.name (end_of e) >>= (λ zs. Ok (fields n zs))) ≡ Ok t) = bind_ok (record_so_far e n v (inside n d)) (λ us. ended (rows n) us v e.name (end_of e) >>= (λ zs. Ok (fields n zs))) t o in
    let y : (zs : Trees) × (ended (rows n) x.0 v e.name (end_of e) ≡ Ok zs) × (Ok (fields n zs) ≡ Ok t) = bind_ok (ended (rows n) x.0 v e.name (end_of e)) (λ zs. Ok (fields n zs)) t x.2 in
    let z : (ts : Trees) × (attributes_read (rows n) (in_force n e.attributes) v e.name e.start ≡ Ok ts) × (content_fields (content_from 0 (rows n)) e n ts v (inside n d) ≡ Ok x.0) = bind_ok (attributes_read (rows n) (in_force n e.attributes) v e.name e.start) (λ ts. content_fields (content_from 0 (rows n)) e n ts v (inside n d)) x.0 x.1 in
    let a : Holds Q z.0 (row_kinds (rows n)) (flags (rows n) v) (inside n d) = attributes_hold Q (rows n) (in_force n e.attributes) v e.name e.start (inside n d) z.0 (force_texts Q n e.attributes g.1) (reads_rows n) z.1 in
    let b : Holds Q x.0 (row_kinds (rows n)) (at_end (content_from 0 (rows n)) (flags (rows n) v)) (inside n d) = content_good Q (content_from 0 (rows n)) e n z.0 x.0 v (flags (rows n) v) (inside n d) g (texts_at n) a z.2 in
    (y.0, sym (ok_same y.2), ended_good Q (rows n) x.0 v e.name (end_of e) (inside n d) y.0 (reads_rows n) (subst (λ (bs : List Bool). Holds Q x.0 (row_kinds (rows n)) bs (inside n d)) (flags_end n v) b) y.1)

-- ---- forms of their own

lists_good : (Q : List ℕ → Type 0) (l : Lists) → GoodChildren Q (plan_of_list l).children (a_list l ∷ [])
unfolding list
lists_good Q licenses = ((tt, λ t h. h), ((tt, λ t h. h), tt))
lists_good Q _ = ((tt, λ t h. h), tt)

list_of_good : (Q : List ℕ → Type 0) (t : Tree) (l : Lists) (d : Depth) → SlotOf Q (a_list l) d t → IsReadOf Q (a_list l) d (list_of t)
unfolding is_shallow
list_of_good Q absent l d h = ((tt, tt), refl)
list_of_good Q (text s) l d (inl h, e) = absurd (true≢false (sym (ap is_absent h)))
list_of_good Q (number s) l d (inl h, e) = absurd (true≢false (sym (ap is_absent h)))
list_of_good Q (boolean s) l d (inl h, e) = absurd (true≢false (sym (ap is_absent h)))
list_of_good Q (items s) l d (inl h, e) = absurd (true≢false (sym (ap is_absent h)))
list_of_good Q (fields n s) l d (inl h, e) = absurd (true≢false (sym (ap is_absent h)))
list_of_good Q _ l d (inr h, e) = (h, e)

list_good : (Q : List ℕ → Type 0) (e : Element) (l : Lists) (v : SpecVersion) (d : Depth) (t : Tree) → GoodElement Q e → list_read e l v d ≡ Ok t → IsReadOf Q (a_list l) d t
list_good Q e l v d t g o =
    let x : (ts : Trees) × (e.read (plan_of_list l) v d (one absent) ≡ Ok ts) × (Ok (list_of (field 0 ts)) ≡ Ok t) = bind_ok (e.read (plan_of_list l) v d (one absent)) (λ ts. Ok (list_of (field 0 ts))) t o in
    let h : Holds Q x.0 (a_list l ∷ []) [] d = g.0 (plan_of_list l) (a_list l ∷ []) [] v d (one absent) x.0 (lists_good Q l) ((absent_slot Q (a_list l) d, tt), tt) x.1 in
    subst (λ (y : Tree). IsReadOf Q (a_list l) d y) (ok_same x.2) (list_of_good Q (field 0 x.0) l d (slot_at Q 0 x.0 (a_list l ∷ []) d h.0))

reference_good : (Q : List ℕ → Type 0) (e : Element) (v : SpecVersion) (d : Depth) (t : Tree) → GoodElement Q e → reference_read e v d ≡ Ok t → IsReadOf Q a_reference d t
unfolding is_shallow TextSome
reference_good Q e v d t g o = by (find_attribute (codes "ref") e.attributes) (find_texts Q (codes "ref") e.attributes g.1) o
  where
    some : (s : List ℕ) → Q s → (e.read no_plan v d none >>= (λ ts. Ok (text s))) ≡ Ok t → IsReadOf Q a_reference d t
    some s u h = let x : (ts : Trees) × (e.read no_plan v d none ≡ Ok ts) × (Ok (text s) ≡ Ok t) = bind_ok (e.read no_plan v d none) (λ ts. Ok (text s)) t h in
        subst (λ (y : Tree). IsReadOf Q a_reference d y) (ok_same x.2) (u, refl)

    read_by : Option (List ℕ) → Result Tree XmlReadError
    read_by None = Err (lacking e.start e.name (codes "ref"))
    read_by (Some s) = e.read no_plan v d none >>= (λ ts. Ok (text s))

    by : (f : Option (List ℕ)) → TextSome Q f → read_by f ≡ Ok t → IsReadOf Q a_reference d t
    by None u h = absurd (err_ok h)
    by (Some s) u h = some s u h

either_was : (b c : Bool) (r s : Result Tree XmlReadError) (f : XmlReadError) (t : Tree) → (if b then r else (if c then s else Err f)) ≡ Ok t → (r ≡ Ok t) ⊎ (s ≡ Ok t)
either_was true c r s f t h = inl h
either_was false true r s f t h = inr h
either_was false false r s f t h = absurd (err_ok h)

choice_good : (Q : List ℕ → Type 0) (e : Element) (v : SpecVersion) (d : Depth) (t : Tree) → GoodElement Q e → choice_read e v d ≡ Ok t → IsReadOf Q a_license_choice d t
choice_good Q e v d t g o = by (either_was (bytes_eq e.name (codes "license")) (bytes_eq e.name (codes "expression")) (record_denoted e license v d) (record_denoted e expression v d) (lacking e.start e.name (codes "license or expression")) t o)
  where
    by : (record_denoted e license v d ≡ Ok t) ⊎ (record_denoted e expression v d ≡ Ok t) → IsReadOf Q a_license_choice d t
    by (inl h) = flat_is Q a_license_choice license d t (record_good Q e license v d t g h) refl (λ ts f. (inl refl, f))
    by (inr h) = flat_is Q a_license_choice expression d t (record_good Q e expression v d t g h) refl (λ ts f. (inr refl, f))

identifier_good : (Q : List ℕ → Type 0) (e : Element) (v : SpecVersion) (d : Depth) (t : Tree) → GoodElement Q e → identifier_read e v d ≡ Ok t → IsReadOf Q a_license_identifier d t
identifier_good Q e v d t g o = by (either_was (bytes_eq e.name (codes "id")) (bytes_eq e.name (codes "name")) (record_denoted e spdx_id v d) (record_denoted e license_name v d) (lacking e.start e.name (codes "id or name")) t o)
  where
    by : (record_denoted e spdx_id v d ≡ Ok t) ⊎ (record_denoted e license_name v d ≡ Ok t) → IsReadOf Q a_license_identifier d t
    by (inl h) = flat_is Q a_license_identifier spdx_id d t (record_good Q e spdx_id v d t g h) refl (λ ts f. (inl refl, f))
    by (inr h) = flat_is Q a_license_identifier license_name d t (record_good Q e license_name v d t g h) refl (λ ts f. (inr refl, f))

-- ---- tools

abbrev tools_kinds : List Kind
tools_kinds = a_list tool_list ∷ a_list services ∷ a_list components ∷ []

tools_children : (Q : List ℕ → Type 0) → GoodChildren Q tools_plan.children tools_kinds
unfolding list
tools_children Q = ((tt, λ t h. h), ((λ t h. h), ((λ t h. h), tt)))

tool_list_tools : (Q : List ℕ → Type 0) (t : Tree) → IsOfAll Q t (a_list tool_list) → IsOfAll Q t a_tools
unfolding list
tool_list_tools Q (fields n ts) h = absurd (true≢false h.0)
tool_list_tools Q _ h = h

part_of : (Q : List ℕ → Type 0) (k : Kind) (d : Depth) (t : Tree) → SlotOf Q k d t → ((t ≡ absent) × (true ≡ true)) ⊎ IsOfAll Q t k
part_of Q k d t (inl h, e) = inl (h, refl)
part_of Q k d t (inr h, e) = inr h

object_good : (Q : List ℕ → Type 0) (v : SpecVersion) (ts : Trees) (d : Depth) → AreSlots Q ts tools_kinds d → IsReadOf Q a_tools d (tools_object_of v ts)
unfolding is_shallow rows
object_good Q V1_3 ts d h = ((tt, tt), refl)
object_good Q V1_4 ts d h = ((tt, tt), refl)
object_good Q V1_5 ts d h =
    let a : SlotOf Q (a_list services) d (field 1 ts) = slot_at Q 1 ts tools_kinds d h in
    let b : SlotOf Q (a_list components) d (field 2 ts) = slot_at Q 2 ts tools_kinds d h in
    ((refl, (part_of Q (a_list services) d (field 1 ts) a, (part_of Q (a_list components) d (field 2 ts) b, tt))), both (is_shallow (field 1 ts) d) (is_shallow (field 2 ts) d && true) a.1 (both (is_shallow (field 2 ts) d) true b.1 refl))

there_good : (Q : List ℕ → Type 0) (k : Kind) (d : Depth) (t : Tree) → is_absent t ≡ false → SlotOf Q k d t → IsReadOf Q k d t
there_good Q k d t a (inl h, e) = absurd (true≢false (sym (ap is_absent h) ∙ a))
there_good Q k d t a (inr h, e) = (h, e)

tools_of_good : (Q : List ℕ → Type 0) (e : Element) (v : SpecVersion) (ts : Trees) (d : Depth) (t : Tree) → AreSlots Q ts tools_kinds d → tools_of e v ts ≡ Ok t → IsReadOf Q a_tools d t
tools_of_good Q e v ts d t h o = by (field 0 ts) (slot_at Q 0 ts tools_kinds d h) o
  where
    f : XmlReadError
    f = lacking (end_of e) e.name (codes "tool array or services & components")

    listed : (x : Tree) → is_absent x ≡ false → SlotOf Q (a_list tool_list) d x → (b : Bool) → (if b then Ok x else Err f) ≡ Ok t → IsReadOf Q a_tools d t
    listed x a s true g = subst (λ (y : Tree). IsReadOf Q a_tools d y) (ok_same g) (tool_list_tools Q x (there_good Q (a_list tool_list) d x a s).0, s.1)
    listed x a s false g = absurd (err_ok g)

    way : Tree → Result Tree XmlReadError
    way absent = Ok (tools_object_of v ts)
    way x = if is_absent (field 1 ts) && is_absent (field 2 ts) then Ok x else Err f

    by : (x : Tree) → SlotOf Q (a_list tool_list) d x → way x ≡ Ok t → IsReadOf Q a_tools d t
    by absent s g = subst (λ (y : Tree). IsReadOf Q a_tools d y) (ok_same g) (object_good Q v ts d h)
    by t s g = listed t refl s (is_absent (field 1 ts) && is_absent (field 2 ts)) g

tools_good : (Q : List ℕ → Type 0) (e : Element) (v : SpecVersion) (d : Depth) (t : Tree) → GoodElement Q e → tools_read e v d ≡ Ok t → IsReadOf Q a_tools d t
tools_good Q e v d t g o =
    let x : (ts : Trees) × (e.read tools_plan v d (more absent (two absent absent)) ≡ Ok ts) × (tools_of e v ts ≡ Ok t) = bind_ok (e.read tools_plan v d (more absent (two absent absent))) (λ ts. tools_of e v ts) t o in
    let h : Holds Q x.0 tools_kinds [] d = g.0 tools_plan tools_kinds [] v d (more absent (two absent absent)) x.0 (tools_children Q) ((absent_slot Q (a_list tool_list) d, (absent_slot Q (a_list services) d, (absent_slot Q (a_list components) d, tt))), tt) x.1 in
    tools_of_good Q e v x.0 d t h.0 x.2

-- ---- data

abbrev data_kinds : List Kind
data_kinds = a_list classifications ∷ a_data ∷ []

data_children : (Q : List ℕ → Type 0) → GoodChildren Q data_plan.children data_kinds
unfolding list
data_children Q = ((tt, λ t h. h), ((tt, λ t h. h), tt))

entries_of : (Q : List ℕ → Type 0) (ts : Trees) → AreOfAll Q ts (a_record classification) → AreOfAll Q ts an_entry
entries_of Q none h = tt
entries_of Q (more t ts) h = (class_entry Q t h.0, entries_of Q ts h.1)

classes_data : (Q : List ℕ → Type 0) (t : Tree) → IsOfAll Q t (a_list classifications) → IsOfAll Q t a_data
unfolding list
classes_data Q (items ts) h = (tt, entries_of Q ts h.1)
classes_data Q (fields n ts) h = absurd (true≢false h.0)
classes_data Q _ h = h

data_of_good : (Q : List ℕ → Type 0) (ts : Trees) (d : Depth) → AreSlots Q ts data_kinds d → IsReadOf Q a_data d (data_of ts)
data_of_good Q ts d h = by (field 1 ts) (slot_at Q 1 ts data_kinds d h)
  where
    classes : IsReadOf Q a_data d (list_of (field 0 ts))
    classes = let p : IsReadOf Q (a_list classifications) d (list_of (field 0 ts)) = list_of_good Q (field 0 ts) classifications d (slot_at Q 0 ts data_kinds d h) in (classes_data Q (list_of (field 0 ts)) p.0, p.1)

    way : Tree → Tree
    way absent = list_of (field 0 ts)
    way x = x

    by : (x : Tree) → SlotOf Q a_data d x → IsReadOf Q a_data d (way x)
    by absent s = classes
    by t s = there_good Q a_data d t refl s

data_good : (Q : List ℕ → Type 0) (e : Element) (v : SpecVersion) (d : Depth) (t : Tree) → GoodElement Q e → data_read e v d ≡ Ok t → IsReadOf Q a_data d t
data_good Q e v d t g o =
    let x : (ts : Trees) × (e.read data_plan v d (two absent absent) ≡ Ok ts) × (Ok (data_of ts) ≡ Ok t) = bind_ok (e.read data_plan v d (two absent absent)) (λ ts. Ok (data_of ts)) t o in
    let h : Holds Q x.0 data_kinds [] d = g.0 data_plan data_kinds [] v d (two absent absent) x.0 (data_children Q) ((absent_slot Q (a_list classifications) d, (absent_slot Q a_data d, tt)), tt) x.1 in
    subst (λ (y : Tree). IsReadOf Q a_data d y) (ok_same x.2) (data_of_good Q x.0 d h.0)

-- ---- signatures

abbrev signature_kinds : List Kind
signature_kinds = a_signature ∷ a_text ∷ a_text ∷ []

signers_signature : (Q : List ℕ → Type 0) (t : Tree) → IsOfAll Q t (a_record signers) → IsOfAll Q t a_signature
signers_signature Q (items ts) h = absurd (true≢false h.0)
signers_signature Q (fields n ts) h = (inl h.0, h.1)
signers_signature Q _ h = h

chain_signature : (Q : List ℕ → Type 0) (t : Tree) → IsOfAll Q t (a_record chain) → IsOfAll Q t a_signature
chain_signature Q (items ts) h = absurd (true≢false h.0)
chain_signature Q (fields n ts) h = (inr (inl h.0), h.1)
chain_signature Q _ h = h

signature_of_good : (Q : List ℕ → Type 0) (e : Element) (v : SpecVersion) (ts : Trees) (d : Depth) (t : Tree) → AreSlots Q ts signature_kinds d → signature_of e v ts ≡ Ok t → IsReadOf Q a_signature d t
signature_of_good Q e v ts d t h o = by (field 0 ts) (slot_at Q 0 ts signature_kinds d h) o
  where
    single : (ended (rows signer) (two (field 1 ts) (field 2 ts)) v e.name (end_of e) >>= (λ us. Ok (fields signer us))) ≡ Ok t → IsReadOf Q a_signature d t
    single g =
        let x : (us : Trees) × (ended (rows signer) (two (field 1 ts) (field 2 ts)) v e.name (end_of e) ≡ Ok us) × (Ok (fields signer us) ≡ Ok t) = bind_ok (ended (rows signer) (two (field 1 ts) (field 2 ts)) v e.name (end_of e)) (λ us. Ok (fields signer us)) t g in
        flat_is Q a_signature signer d t (
          x.0,
          sym (ok_same x.2),
          ended_good Q (rows signer) (two (field 1 ts) (field 2 ts)) v e.name (end_of e) d x.0 (reads_rows signer)
              (unfold rows in ((slot_at Q 1 ts signature_kinds d h, (slot_at Q 2 ts signature_kinds d h, tt)), ((λ b. absurd (true≢false (sym b))), ((λ b. absurd (true≢false (sym b))), tt)))) x.1,
        ) refl (λ us f. (inr (inr refl), f))

    way : Tree → Result Tree XmlReadError
    way absent = ended (rows signer) (two (field 1 ts) (field 2 ts)) v e.name (end_of e) >>= (λ us. Ok (fields signer us))
    way x = Ok x

    listed : (x : Tree) → is_absent x ≡ false → SlotOf Q a_signature d x → Ok x ≡ way x → way x ≡ Ok t → IsReadOf Q a_signature d t
    listed x a s i g = subst (λ (y : Tree). IsReadOf Q a_signature d y) (ok_same (i ∙ g)) (there_good Q a_signature d x a s)

    by : (x : Tree) → SlotOf Q a_signature d x → way x ≡ Ok t → IsReadOf Q a_signature d t
    by absent s g = single g
    by t s g = listed t refl s refl g

signature_good : (Q : List ℕ → Type 0) (e : Element) (v : SpecVersion) (d : Depth) (t : Tree) → GoodElement Q e → signature_read e v d ≡ Ok t → IsReadOf Q a_signature d t
signature_good Q e v d t g o =
    let x : (ts : Trees) × (e.read signature_plan v d (more absent (two absent absent)) ≡ Ok ts) × (signature_of e v ts ≡ Ok t) = bind_ok (e.read signature_plan v d (more absent (two absent absent))) (λ ts. signature_of e v ts) t o in
    let h : Holds Q x.0 signature_kinds [] d = g.0 signature_plan signature_kinds [] v d (more absent (two absent absent)) x.0 (signers_signature Q, (chain_signature Q, ((λ t h. h), ((λ t h. h), tt)))) ((absent_slot Q a_signature d, (absent_slot Q a_text d, (absent_slot Q a_text d, tt))), tt) x.1 in
    signature_of_good Q e v x.0 d t h.0 x.2

-- ---- all row_kinds

bill_good : (Q : List ℕ → Type 0) (e : Element) (v : SpecVersion) (d : Depth) (t : Tree) → GoodElement Q e → bill_read e v d ≡ Ok t → IsReadOf Q a_bill d t
bill_good Q e v d t g o = by (bytes_eq e.name (codes "bom")) (in_namespace e.namespace (namespace v)) o
  where
    by : (b c : Bool) → (if b then (if c then record_denoted e bill v d else Err (namespaced (namespace v) e.namespace)) else Err (unexpected e.start (codes "bom") kinds.StartElement)) ≡ Ok t → IsReadOf Q a_bill d t
    by true true h = flat_is Q a_bill bill d t (record_good Q e bill v d t g h) refl (λ ts f. (refl, f))
    by true false h = absurd (err_ok h)
    by false c h = absurd (err_ok h)

text_element : (Q : List ℕ → Type 0) (e : Element) (d : Depth) (t : Tree) → GoodElement Q e → (text_read e >>= (λ s. Ok (text s))) ≡ Ok t → IsReadOf Q a_text d t
unfolding is_shallow
text_element Q e d t g o =
    let x : (s : List ℕ) × (text_read e ≡ Ok s) × (Ok (text s) ≡ Ok t) = bind_ok (text_read e) (λ s. Ok (text s)) t o in
    subst (λ (y : Tree). IsReadOf Q a_text d y) (ok_same x.2) (simple_good Q g.3 e.nodes e.name (suc e.start) x.0 g.2 x.1, refl)

boolean_element : (Q : List ℕ → Type 0) (e : Element) (d : Depth) (t : Tree) → boolean_read e ≡ Ok t → IsReadOf Q a_boolean d t
boolean_element Q e d t o =
    let x : (s : List ℕ) × (text_read e ≡ Ok s) × (parsed (boolean_tree (boolean_of s)) (end_of e) e.name s a_boolean ≡ Ok t) = bind_ok (text_read e) (λ s. parsed (boolean_tree (boolean_of s)) (end_of e) e.name s a_boolean) t o in
    boolean_leaf Q (boolean_of x.0) d t (parsed_was (boolean_tree (boolean_of x.0)) (end_of e) e.name x.0 a_boolean t x.2)

number_alone_good : (Q : List ℕ → Type 0) (o : Option ℕ) (s : List ℕ) (xs : Nodes) (around : List ℕ) (p : ℕ) (d : Depth) (t : Tree) → ((n : ℕ) → o ≡ Some n → n < 2 ^ 32) → number_alone o s xs around p ≡ Ok t → IsReadOf Q a_number d t
unfolding is_shallow
number_alone_good Q None s xs around p d t f h = absurd (err_ok h)
number_alone_good Q (Some n) s xs around p d t f h =
    let x : (u : List ℕ) × (after_text s xs around (suc p) ≡ Ok u) × (Ok (number n) ≡ Ok t) = bind_ok (after_text s xs around (suc p)) (λ u. Ok (number n)) t h in
    subst (λ (y : Tree). IsReadOf Q a_number d y) (ok_same x.2) (f n refl, refl)

number_in_good : (Q : List ℕ → Type 0) (xs : Nodes) (around : List ℕ) (p : ℕ) (d : Depth) (t : Tree) → number_in xs around p ≡ Ok t → IsReadOf Q a_number d t
number_in_good Q no_nodes around p d t h = absurd (err_ok h)
number_in_good Q (node (characters s) xs) around p d t h = number_alone_good Q (number_of (trim s)) s xs around p d t (number_below (trim s)) h
number_in_good Q (node (cdata s) xs) around p d t h = number_alone_good Q (number_of (trim s)) s xs around p d t (number_below (trim s)) h
number_in_good Q (node (element n as' default ys) xs) around p d t h = absurd (err_ok h)

entry_element : (Q : List ℕ → Type 0) (e : Element) (v : SpecVersion) (d : Depth) (t : Tree) → GoodElement Q e → (record_denoted e service_data v d >>= (λ s. Ok (entry_of s))) ≡ Ok t → IsReadOf Q an_entry d t
entry_element Q e v d t g o =
    let x : (s : Tree) × (record_denoted e service_data v d ≡ Ok s) × (Ok (entry_of s) ≡ Ok t) = bind_ok (record_denoted e service_data v d) (λ s. Ok (entry_of s)) t o in
    let p : IsRecordRead Q service_data d x.0 = record_good Q e service_data v d x.0 g x.1 in
    subst (λ (y : Tree). IsReadOf Q an_entry d y) (ap entry_of (sym p.1) ∙ ok_same x.2) (flow_entry Q p.0 d p.2)

kind_good : (Q : List ℕ → Type 0) (e : Element) (v : SpecVersion) (k : Kind) (d : Depth) (t : Tree) → GoodElement Q e → kind_read e v k d ≡ Ok t → IsReadOf Q k d t
kind_good Q e v a_text d t g o = text_element Q e d t g o
kind_good Q e v a_boolean d t g o = boolean_element Q e d t o
kind_good Q e v a_number d t g o = number_in_good Q e.nodes e.name (suc e.start) d t o
kind_good Q e v a_version d t g o = absurd (err_ok o)
kind_good Q e v (a_list l) d t g o = list_good Q e l v d t g o
kind_good Q e v (a_record n) d t g o =
    let a : (name_too_deep n d ≡ false) × (record_denoted e n v d ≡ Ok t) = if_was (name_too_deep n d) (nested e.start) (record_denoted e n v d) t o in
    flat_is Q (a_record n) n d t (record_good Q e n v d t g a.1) a.0 (λ ts f. (refl, f))
kind_good Q e v a_reference d t g o = reference_good Q e v d t g o
kind_good Q e v a_license_choice d t g o = choice_good Q e v d t g o
kind_good Q e v a_license_identifier d t g o = identifier_good Q e v d t g o
kind_good Q e v a_tools d t g o = tools_good Q e v d t g o
kind_good Q e v a_data d t g o = data_good Q e v d t g o
kind_good Q e v an_entry d t g o = entry_element Q e v d t g o
kind_good Q e v a_signature d t g o = signature_good Q e v d t g o
kind_good Q e v a_bill d t g o = bill_good Q e v d t g o

mutual
  unfolding xread

  pub xread_of : (Q : List ℕ → Type 0) → Q [] → (x : Node) → NodeTexts Q x → (v : SpecVersion) (k : Kind) (p : ℕ) (d : Depth) (t : Tree) → xread x v k p d ≡ Ok t → IsReadOf Q k d t
  xread_of Q nil (characters s) u v k p d t o = absurd (err_ok o)
  xread_of Q nil (cdata s) u v k p d t o = absurd (err_ok o)
  xread_of Q nil (element n as' default xs) u v k p d t o =
      kind_good Q (record { name = n.local_name; attributes = as'; namespace = default.default; nodes = xs; start = p; read = λ plan w e ts. nodes_read xs plan n.local_name w e (suc p) ts }) v k d t
      ((λ plan ks bs w e ts us g h q. nodes_hold Q nil xs u.1 plan n.local_name w e (suc p) ts us ks bs g h q), u.0, u.1, nil) o

  nodes_hold : (Q : List ℕ → Type 0) → Q [] → (xs : Nodes) → NodesTexts Q xs → (plan : Plan) (around : List ℕ) (v : SpecVersion) (d : Depth) (p : ℕ) (ts us : Trees) (ks : List Kind) (bs : List Bool) → GoodChildren Q plan.children ks → Holds Q ts ks bs d
      → nodes_read xs plan around v d p ts ≡ Ok us → Holds Q us ks bs d
  nodes_hold Q nil no_nodes u plan around v d p ts us ks bs g h o = subst (λ (y : Trees). Holds Q y ks bs d) (ok_same o) h
  nodes_hold Q nil (node x xs) u plan around v d p ts us ks bs g h o =
      let a : (zs : Trees) × (node_read x (xread x) plan around v d p ts ≡ Ok zs) × (nodes_read xs plan around v d (p + places x) zs ≡ Ok us) = bind_ok (node_read x (xread x) plan around v d p ts) (λ zs. nodes_read xs plan around v d (p + places x) zs) us o in
      nodes_hold Q nil xs u.1 plan around v d (p + places x) a.0 us ks bs g (node_holds Q x (xread x) plan around v d p ts a.0 ks bs g (λ w k q e t r. xread_of Q nil x u.0 w k q e t r) h a.1) a.2

-- A bill that an element denotes is of its kind and shallow.
pub xml_bill : (Q : List ℕ → Type 0) → Q [] → (x : Node) (v : SpecVersion) (b : Tree) → NodeTexts Q x → xml_denotes x v ≡ Ok b → IsReadOf Q a_bill top b
xml_bill Q nil x v b u e = xread_of Q nil x u v a_bill 1 top b e
