-- Where the first fault of an element stands: within it.
use Rattle.std.specs.Prelude.{◌≡◌, refl, ℕ, suc, ◌+◌, ◌<◌, ◌≤◌, List, [], ◌∷◌, ◌++◌, Bool, true, false, ◌&&◌, if◌then◌else◌, Option, Some, None, Result, Ok, Err, codes}
use Rattle.std.proofs.Common.{true≢false}
use Rattle.std.specs.Str.{bytes_eq, trim}
use mathlib.Core.Path.{ap, sym, ◌∙◌, subst}
use native.Mathlib.Omega.{arith}
use Rattle.cdx_models.specs.declared.bom.SpecVersion.{SpecVersion}
use Rattle.cdx_models.specs.Versions.{knows, label, namespace}
use Rattle.cdx_models.specs.Trees.{Name, hash, license, expression, spdx_id, license_name, service_data, signer, bill, Tree, absent, text, number, fields, Trees, none, more, one, two, field, with_field, is_absent}
use Rattle.cdx_schema.specs.Kinds.{Lists, hashes, Kind, a_text, a_boolean, a_number, a_version, a_list, a_record, a_reference, a_license_choice, a_license_identifier, a_tools, a_data, an_entry, a_signature, a_bill, Rule, lax, strict, passing, Spelled, attribute, attribute_or, child, filled_child, children, either_child, the_version, Row}
use Rattle.cdx_schema.specs.Table.{rows, list}
use Rattle.cdx_schema.specs.Held.{held_kind}
use Rattle.cdx_schema.specs.Results.{◌>>=◌}
use Rattle.cdx_events.specs.declared.event.EventKind.{EventKind}
use Rattle.cdx_models.specs.declared.errors.XmlReadError.{XmlReadError}
use Rattle.cdx_models.specs.declared.errors.XmlReadError.TheVariants.{ElementReadError, UnexpectedElementReadError, RequiredDataMissing, RequiredAttributeMissing, InvalidParseError, InvalidNamespaceError, TooDeep, Memory}
use Rattle.cdx_schema.specs.Faults.{unexpected, lacking, unreadable, namespaced, nested}
use Rattle.cdx_schema.specs.Depth.{Depth, top, inside, name_too_deep}
use Rattle.cdx_models.specs.Entries.{entry_of}
use Rattle.cdx_schema.specs.JsonReading.{is_required}
use Rattle.cdx_schema.specs.XmlTexts.{boolean_of, number_of, boolean_tree, tree_of_text}
use Rattle.cdx_schema.specs.XmlReading.{ElementReading, Child, Plan, row_children, children_from, record_plan, plan_of_list, tools_plan, data_plan, signature_plan, no_plan, find_child, stored, stray, unknown, is_second, child_read_into, node_read, find_attribute, parsed, attribute_read, attribute_or_read, row_attribute, attributes_read, in_force, after_text, text_in, exact_text, TextContent, no_content, any_text, one_text_alone, content_from, name_owed, lacks, lacking_row, filled, ended, Element, end_of, text_read, boolean_read, number_alone, number_in, list_of, content_fields, record_so_far, record_denoted, tools_object_of, tools_of, data_of, signature_of, tools_read, signature_read, in_namespace, kind_read, xread, nodes_read, xml_denotes}
use Rattle.cdx_schema.specs.Locality.{fault_place, IsDocumentFault, RefusesByFaults}
use Rattle.cdx_schema.proofs.JsonBack.{and_true}
use Rattle.cdx_events.specs.declared.event.EventKind.TheVariants as kinds
use Rattle.cdx_events.specs.declared.name.OwnedAttribute.{OwnedAttribute}
use Rattle.cdx_events.specs.declared.name.OwnedName.{OwnedName}
use Rattle.cdx_events.specs.declared.name.Namespace.{Namespace}
use Rattle.cdx_events.specs.Nodes.{Node, Nodes, cdata, characters, element, no_nodes, node}
use Rattle.cdx_schema.specs.Nodes.{places, places_of}

-- ---- results

pub ok_err : {A F B : Type 0} {a : A} {f : F} → Ok a ≡ Err f → B
ok_err {A} {F} {B} h = absurd (true≢false (ap is_fine h))
  where
    is_fine : Result A F → Bool
    is_fine (Ok x) = true
    is_fine (Err e) = false

abbrev pub fault_or : {A : Type 0} → XmlReadError → Result A XmlReadError → XmlReadError
fault_or e (Ok x) = e
fault_or e (Err f) = f

abbrev pub as_err : (A : Type 0) → XmlReadError → Result A XmlReadError
as_err A e = Err e

pub err_same : {A : Type 0} {e f : XmlReadError} → as_err A e ≡ Err f → e ≡ f
err_same {e = e} h = ap (fault_or e) h

pub bind_err : {A B C : Type 0} (r : Result A XmlReadError) (g : A → Result B XmlReadError) (f : XmlReadError) → (r >>= g) ≡ Err f → (r ≡ Err f → C) → ((x : A) → r ≡ Ok x → g x ≡ Err f → C) → C
bind_err (Ok x) g f h p q = q x refl h
bind_err (Err e) g f h p q = p (ap (λ z. Err z) (err_same h))

pub err_bind : {A B : Type 0} (r : Result A XmlReadError) (g : A → Result B XmlReadError) (f : XmlReadError) → r ≡ Err f → (r >>= g) ≡ Err f
err_bind r g f h = ap (λ z. z >>= g) h

-- ---- where faults stand

if_place : {A : Type 0} (b : Bool) (e : XmlReadError) (r : Result A XmlReadError) (f : XmlReadError) (p : ℕ) → fault_place e ≡ p → (if b then Err e else r) ≡ Err f → (r ≡ Err f → fault_place f ≡ p) → fault_place f ≡ p
if_place true e r f p i h g = ap fault_place (sym (err_same h)) ∙ i
if_place false e r f p i h g = g h

parsed_place : (o : Option Tree) (p : ℕ) (q s : List ℕ) (k : Kind) (f : XmlReadError) → parsed o p q s k ≡ Err f → fault_place f ≡ p
parsed_place None p q s k f h = ap fault_place (sym (err_same h))
parsed_place (Some t) p q s k f h = ok_err h

attribute_place : (o : Option (List ℕ)) (q : List ℕ) (r : Row) (v : SpecVersion) (around : List ℕ) (p : ℕ) (f : XmlReadError) → attribute_read o q r v around p ≡ Err f → fault_place f ≡ p
attribute_place None q r v around p f h = if_place (is_required r.need v) (lacking p around q) (Ok absent) f p refl h (λ g. ok_err g)
attribute_place (Some s) q r v around p f h = parsed_place (tree_of_text r.kind s) p q s r.kind f h

attribute_or_place : (o : Option (List ℕ)) (q : List ℕ) (n : ℕ) (r : Row) (p : ℕ) (f : XmlReadError) → attribute_or_read o q n r p ≡ Err f → fault_place f ≡ p
attribute_or_place None q n r p f h = ok_err h
attribute_or_place (Some s) q n r p f h = parsed_place (tree_of_text r.kind s) p q s r.kind f h

known_place : (b : Bool) (r : Result Tree XmlReadError) (f : XmlReadError) (p : ℕ) → (if b then r else Ok absent) ≡ Err f → (r ≡ Err f → fault_place f ≡ p) → fault_place f ≡ p
known_place true r f p h g = g h
known_place false r f p h g = ok_err h

row_place : (r : Row) (as' : List OwnedAttribute) (v : SpecVersion) (around : List ℕ) (p : ℕ) (f : XmlReadError) → row_attribute r as' v around p ≡ Err f → fault_place f ≡ p
row_place r as' v around p f h = by r.xml h
  where
    by : (x : Spelled) → row_attribute (record r { xml = x }) as' v around p ≡ Err f → fault_place f ≡ p
    by (attribute q) g = known_place (knows r.since v) (attribute_read (find_attribute q as') q (record r { xml = attribute q }) v around p) f p g (attribute_place (find_attribute q as') q (record r { xml = attribute q }) v around p f)
    by (attribute_or q n) g = known_place (knows r.since v) (attribute_or_read (find_attribute q as') q n (record r { xml = attribute_or q n }) p) f p g (attribute_or_place (find_attribute q as') q n (record r { xml = attribute_or q n }) p f)
    by the_version g = known_place (knows r.since v) (Ok (text (label v))) f p g (λ i. ok_err i)
    by _ g = ok_err g

pub attributes_place : (rs : List Row) (as' : List OwnedAttribute) (v : SpecVersion) (around : List ℕ) (p : ℕ) (f : XmlReadError) → attributes_read rs as' v around p ≡ Err f → fault_place f ≡ p
unfolding attributes_read
attributes_place [] as' v around p f h = ok_err h
attributes_place (r ∷ rs) as' v around p f h =
    bind_err (row_attribute r as' v around p) (λ t. attributes_read rs as' v around p >>= (λ ts. Ok (more t ts))) f h
    (row_place r as' v around p f)
    (λ t i g. bind_err (attributes_read rs as' v around p) (λ ts. Ok (more t ts)) f g (attributes_place rs as' v around p f) (λ ts j k. ok_err k))

lacking_place : (o : Option (List ℕ)) (around : List ℕ) (p : ℕ) (f : XmlReadError) → lacking_row o around p (Ok none) ≡ Err f → fault_place f ≡ p
lacking_place None around p f h = ok_err h
lacking_place (Some q) around p f h = ap fault_place (sym (err_same h))

either_place : (b : Bool) (r s : Result Trees XmlReadError) (f : XmlReadError) (p : ℕ) → (if b then r else s) ≡ Err f → (r ≡ Err f → fault_place f ≡ p) → (s ≡ Err f → fault_place f ≡ p) → fault_place f ≡ p
either_place true r s f p h g k = g h
either_place false r s f p h g k = k h

pub ended_place : (rs : List Row) (ts : Trees) (v : SpecVersion) (around : List ℕ) (p : ℕ) (f : XmlReadError) → ended rs ts v around p ≡ Err f → fault_place f ≡ p
unfolding ended
ended_place [] ts v around p f h = ok_err h
ended_place (r ∷ rs) none v around p f h = ok_err h
ended_place (r ∷ rs) (more t ts) v around p f h =
    either_place (lacks (name_owed r.xml) r t v) (lacking_row (name_owed r.xml) around p (Ok none)) (ended rs ts v around p >>= (λ us. Ok (more (filled r t) us))) f p h
    (lacking_place (name_owed r.xml) around p f)
    (λ g. bind_err (ended rs ts v around p) (λ us. Ok (more (filled r t) us)) f g (ended_place rs ts v around p f) (λ us i j. ok_err j))

-- ---- plans that hold no bill

abbrev pub no_bill : Kind → Bool
no_bill a_bill = false
no_bill _ = true

abbrev pub no_bills : List Child → Bool
no_bills [] = true
no_bills (c ∷ cs) = no_bill c.kind && no_bills cs

abbrev no_bill_rows : List Row → Bool
no_bill_rows [] = true
no_bill_rows (r ∷ rs) = (no_bill r.kind && no_bill (held_kind r.kind)) && no_bill_rows rs

rows_no_bill : (n : Name) → no_bill_rows (rows n) ≡ true
unfolding rows list
rows_no_bill hash = refl
rows_no_bill _ = refl

no_bills_append : (xs ys : List Child) → no_bills xs ≡ true → no_bills ys ≡ true → no_bills (xs ++ ys) ≡ true
no_bills_append [] ys p q = q
no_bills_append (x ∷ xs) ys p q = let a : (no_bill x.kind ≡ true) × (no_bills xs ≡ true) = and_true (no_bill x.kind) (no_bills xs) p in rw (a.0, no_bills_append xs ys a.1 q) refl

row_no_bill : (i : ℕ) (r : Row) → no_bill r.kind ≡ true → no_bill (held_kind r.kind) ≡ true → no_bills (row_children i r) ≡ true
row_no_bill i r p q = by r.xml
  where
    by : (x : Spelled) → no_bills (row_children i (record r { xml = x })) ≡ true
    by (child m) = rw p refl
    by (filled_child m) = rw p refl
    by (children m) = rw q refl
    by (either_child m n) = rw p refl
    by _ = refl

children_no_bill : (i : ℕ) (rs : List Row) → no_bill_rows rs ≡ true → no_bills (children_from i rs) ≡ true
children_no_bill i [] h = refl
children_no_bill i (r ∷ rs) h =
    let a : ((no_bill r.kind && no_bill (held_kind r.kind)) ≡ true) × (no_bill_rows rs ≡ true) = and_true (no_bill r.kind && no_bill (held_kind r.kind)) (no_bill_rows rs) h in
    let b : (no_bill r.kind ≡ true) × (no_bill (held_kind r.kind) ≡ true) = and_true (no_bill r.kind) (no_bill (held_kind r.kind)) a.0 in
    no_bills_append (row_children i r) (children_from (suc i) rs) (row_no_bill i r b.0 b.1) (children_no_bill (suc i) rs a.1)

list_no_bill : (l : Lists) → no_bills (plan_of_list l).children ≡ true
unfolding list
list_no_bill hashes = refl
list_no_bill _ = refl

-- ---- one element beside another of the same start

abbrev pub Rd : Type 0
Rd = Plan → SpecVersion → Depth → Trees → Result Trees XmlReadError

-- what is shown of a result: that it is the fault, or something else
abbrev pub Out : {A : Type 0} → Bool → Type 0 → XmlReadError → Result A XmlReadError → Type 0
Out true Q f r = r ≡ Err f
Out false Q f r = Q

out_bind : {A B : Type 0} (m : Bool) (Q : Type 0) (f : XmlReadError) (r : Result A XmlReadError) (g : A → Result B XmlReadError) → Out m Q f r → Out m Q f (r >>= g)
out_bind true Q f r g h = err_bind r g f h
out_bind false Q f r g h = h

abbrev pub elem : List ℕ → List OwnedAttribute → Option (List ℕ) → ℕ → Nodes → Rd → Element
elem n as' nsp s xs rd = record { name = n; attributes = as'; namespace = nsp; nodes = xs; start = s; read = rd }

-- How the faults of the one element's nodes show in the other's.
abbrev pub Shows : Bool → Type 0 → XmlReadError → List ℕ → ℕ → Nodes → Nodes → Rd → Rd → Type 0
Shows m Q f n s xs ys rd rd' =
    ((plan : Plan) (v : SpecVersion) (d : Depth) (ts : Trees) → no_bills plan.children ≡ true → rd plan v d ts ≡ Err f → Out m Q f (rd' plan v d ts))
    × ((o : Result (List ℕ) XmlReadError) → (o ≡ Err f → fault_place f ≡ suc s) → text_in o xs n (suc s) ≡ Err f → Out m Q f (text_in o ys n (suc s)))
    × (number_in xs n (suc s) ≡ Err f → Out m Q f (number_in ys n (suc s)))
    × ((r : Result Tree XmlReadError) → fault_place f ≡ s → r ≡ Err f → Out m Q f r)
    × ((r : Result Tree XmlReadError) → fault_place f ≡ suc (s + places_of xs) → Out m Q f r)

module _ (m : Bool) (Q : Type 0) (f : XmlReadError) (n : List ℕ) (as' : List OwnedAttribute) (nsp : Option (List ℕ)) (s : ℕ) (xs ys : Nodes) (rd rd' : Rd) (h : Shows m Q f n s xs ys rd rd') where
  abbrev pub E : Element
  E = elem n as' nsp s xs rd

  abbrev pub F : Element
  F = elem n as' nsp s ys rd'

  simple_out : text_read E ≡ Err f → Out m Q f (text_read F)
  simple_out g = h.1 (Ok []) (λ z. ok_err z) g

  exact_out : exact_text xs n (suc s) ≡ Err f → Out m Q f (exact_text ys n (suc s))
  exact_out g = h.1 (Err (unexpected (suc s) n kinds.EndElement)) (λ z. ap fault_place (sym (err_same z))) g

  content_out : (c : TextContent) (k : Name) (ts : Trees) (v : SpecVersion) (d : Depth) → content_fields c E k ts v d ≡ Err f → Out m Q f (content_fields c F k ts v d)
  content_out no_content k ts v d g = h.0 (record_plan k) v d ts (children_no_bill 0 (rows k) (rows_no_bill k)) g
  content_out (any_text i) k ts v d g = bind_err (text_read E) (λ t. Ok (with_field i (text t) ts)) f g
      (λ z. out_bind m Q f (text_read F) (λ t. Ok (with_field i (text t) ts)) (simple_out z)) (λ t i j. ok_err j)
  content_out (one_text_alone i) k ts v d g = bind_err (exact_text xs n (suc s)) (λ t. Ok (with_field i (text t) ts)) f g
      (λ z. out_bind m Q f (exact_text ys n (suc s)) (λ t. Ok (with_field i (text t) ts)) (exact_out z)) (λ t i j. ok_err j)

  abbrev Ends : Element → Name → SpecVersion → Trees → Result Tree XmlReadError
  Ends e k v us = ended (rows k) us v e.name (end_of e) >>= (λ zs. Ok (fields k zs))

  ends_out : (k : Name) (v : SpecVersion) (us : Trees) (r : Result Tree XmlReadError) → Ends E k v us ≡ Err f → Out m Q f r
  ends_out k v us r g = bind_err (ended (rows k) us v n (end_of E)) (λ zs. Ok (fields k zs)) f g (λ z. h.4 r (ended_place (rows k) us v n (end_of E) f z)) (λ zs i j. ok_err j)

  pub record_out : (k : Name) (v : SpecVersion) (d : Depth) → record_denoted E k v d ≡ Err f → Out m Q f (record_denoted F k v d)
  record_out k v d g =
      bind_err (record_so_far E k v (inside k d)) (Ends E k v) f g
      (λ z. bind_err (attributes_read (rows k) (in_force k as') v n s) (λ ts. content_fields (content_from 0 (rows k)) E k ts v (inside k d)) f z
      (λ a. h.3 (record_denoted F k v d) (attributes_place (rows k) (in_force k as') v n s f a)
      (err_bind (record_so_far F k v (inside k d)) (Ends F k v) f (err_bind (attributes_read (rows k) (in_force k as') v n s) (λ ts. content_fields (content_from 0 (rows k)) F k ts v (inside k d)) f a)))
      (λ ts i a. out_bind m Q f (record_so_far F k v (inside k d)) (Ends F k v)
      (subst (λ (r : Result Trees XmlReadError). Out m Q f (r >>= (λ us. content_fields (content_from 0 (rows k)) F k us v (inside k d)))) (sym i) (content_out (content_from 0 (rows k)) k ts v (inside k d) a))))
      (λ us i z. ends_out k v us (record_denoted F k v d) z)

  deep_out : (b : Bool) (k : Name) (v : SpecVersion) (d : Depth) → (if b then Err (nested s) else record_denoted E k v d) ≡ Err f → Out m Q f (if b then Err (nested s) else record_denoted F k v d)
  deep_out true k v d g = h.3 (Err (nested s)) (ap fault_place (sym (err_same g))) g
  deep_out false k v d g = record_out k v d g

  either_out : (b c : Bool) (j k : Name) (q : List ℕ) (v : SpecVersion) (d : Depth) → (if b then record_denoted E j v d else (if c then record_denoted E k v d else Err (lacking s n q))) ≡ Err f
      → Out m Q f (if b then record_denoted F j v d else (if c then record_denoted F k v d else Err (lacking s n q)))
  either_out true c j k q v d g = record_out j v d g
  either_out false true j k q v d g = record_out k v d g
  either_out false false j k q v d g = h.3 (Err (lacking s n q)) (ap fault_place (sym (err_same g))) g

  abbrev reference_by : Rd → SpecVersion → Depth → Option (List ℕ) → Result Tree XmlReadError
  reference_by r v d None = Err (lacking s n (codes "ref"))
  reference_by r v d (Some t) = r no_plan v d none >>= (λ ts. Ok (text t))

  reference_out : (o : Option (List ℕ)) (v : SpecVersion) (d : Depth) → reference_by rd v d o ≡ Err f → Out m Q f (reference_by rd' v d o)
  reference_out None v d g = h.3 (Err (lacking s n (codes "ref"))) (ap fault_place (sym (err_same g))) g
  reference_out (Some t) v d g = bind_err (rd no_plan v d none) (λ ts. Ok (text t)) f g (λ z. out_bind m Q f (rd' no_plan v d none) (λ ts. Ok (text t)) (h.0 no_plan v d none refl z)) (λ ts i j. ok_err j)

  abbrev tools_by : Element → SpecVersion → Trees → Tree → Result Tree XmlReadError
  tools_by e v ts absent = Ok (tools_object_of v ts)
  tools_by e v ts x = if is_absent (field 1 ts) && is_absent (field 2 ts) then Ok x else Err (lacking (end_of e) e.name (codes "tool array or services & components"))

  beside_out : (b : Bool) (x : Tree) (r : Result Tree XmlReadError) → (if b then Ok x else Err (lacking (end_of E) n (codes "tool array or services & components"))) ≡ Err f → Out m Q f r
  beside_out true x r g = ok_err g
  beside_out false x r g = h.4 r (ap fault_place (sym (err_same g)))

  tools_out : (v : SpecVersion) (ts : Trees) (x : Tree) (r : Result Tree XmlReadError) → tools_by E v ts x ≡ Err f → Out m Q f r
  tools_out v ts absent r g = ok_err g
  tools_out v ts x r g = beside_out (is_absent (field 1 ts) && is_absent (field 2 ts)) x r g

  abbrev signature_by : Element → SpecVersion → Trees → Tree → Result Tree XmlReadError
  signature_by e v ts absent = ended (rows signer) (two (field 1 ts) (field 2 ts)) v e.name (end_of e) >>= (λ us. Ok (fields signer us))
  signature_by e v ts x = Ok x

  signature_out : (v : SpecVersion) (ts : Trees) (x : Tree) (r : Result Tree XmlReadError) → signature_by E v ts x ≡ Err f → Out m Q f r
  signature_out v ts absent r g = ends_out signer v (two (field 1 ts) (field 2 ts)) r g
  signature_out v ts x r g = ok_err g

  plan_out : (plan : Plan) (v : SpecVersion) (d : Depth) (ts : Trees) (g g' : Trees → Result Tree XmlReadError) → no_bills plan.children ≡ true → (rd plan v d ts >>= g) ≡ Err f → ((us : Trees) → g us ≡ Err f → Out m Q f (rd' plan v d ts >>= g')) → Out m Q f (rd' plan v d ts >>= g')
  plan_out plan v d ts g g' b z k = bind_err (rd plan v d ts) g f z (λ a. out_bind m Q f (rd' plan v d ts) g' (h.0 plan v d ts b a)) (λ us i a. k us a)

  pub kind_out : (v : SpecVersion) (k : Kind) (d : Depth) → no_bill k ≡ true → kind_read E v k d ≡ Err f → Out m Q f (kind_read F v k d)
  kind_out v a_text d b g = bind_err (text_read E) (λ t. Ok (text t)) f g (λ z. out_bind m Q f (text_read F) (λ t. Ok (text t)) (simple_out z)) (λ t i j. ok_err j)
  kind_out v a_boolean d b g = bind_err (text_read E) (λ t. parsed (boolean_tree (boolean_of t)) (end_of E) n t a_boolean) f g
      (λ z. out_bind m Q f (text_read F) (λ t. parsed (boolean_tree (boolean_of t)) (end_of F) n t a_boolean) (simple_out z))
      (λ t i j. h.4 (boolean_read F) (parsed_place (boolean_tree (boolean_of t)) (end_of E) n t a_boolean f j))
  kind_out v a_number d b g = h.2 g
  kind_out v a_version d b g = h.3 (Err (unexpected s n kinds.StartElement)) (ap fault_place (sym (err_same g))) g
  kind_out v (a_list l) d b g = plan_out (plan_of_list l) v d (one absent) (λ ts. Ok (list_of (field 0 ts))) (λ ts. Ok (list_of (field 0 ts))) (list_no_bill l) g (λ us j. ok_err j)
  kind_out v (a_record k) d b g = deep_out (name_too_deep k d) k v d g
  kind_out v a_reference d b g = reference_out (find_attribute (codes "ref") as') v d g
  kind_out v a_license_choice d b g = either_out (bytes_eq n (codes "license")) (bytes_eq n (codes "expression")) license expression (codes "license or expression") v d g
  kind_out v a_license_identifier d b g = either_out (bytes_eq n (codes "id")) (bytes_eq n (codes "name")) spdx_id license_name (codes "id or name") v d g
  kind_out v a_tools d b g = plan_out tools_plan v d (more absent (two absent absent)) (λ ts. tools_of E v ts) (λ ts. tools_of F v ts) refl g (λ us j. tools_out v us (field 0 us) (tools_read F v d) j)
  kind_out v a_data d b g = plan_out data_plan v d (two absent absent) (λ ts. Ok (data_of ts)) (λ ts. Ok (data_of ts)) refl g (λ us j. ok_err j)
  kind_out v an_entry d b g = bind_err (record_denoted E service_data v d) (λ t. Ok (entry_of t)) f g (λ z. out_bind m Q f (record_denoted F service_data v d) (λ t. Ok (entry_of t)) (record_out service_data v d z)) (λ t i j. ok_err j)
  kind_out v a_signature d b g = plan_out signature_plan v d (more absent (two absent absent)) (λ ts. signature_of E v ts) (λ ts. signature_of F v ts) refl g (λ us j. signature_out v us (field 0 us) (signature_read F v d) j)
  kind_out v a_bill d b g = absurd (true≢false (sym b))

-- ---- each fault stands within what it is found in

-- from s on, and before e
abbrev pub Within : ℕ → ℕ → XmlReadError → Type 0
Within s e f = (s ≤ fault_place f) × (fault_place f < e)

at_place : (p s e : ℕ) (f : XmlReadError) → s ≤ p → p < e → fault_place f ≡ p → Within s e f
at_place p s e f l h i = (subst (λ (q : ℕ). s ≤ q) (sym i) l, subst (λ (q : ℕ). q < e) (sym i) h)

-- at the place of the fault that is the result
of_fault : {A : Type 0} (g : XmlReadError) (s e : ℕ) (f : XmlReadError) → as_err A g ≡ Err f → s ≤ fault_place g → fault_place g < e → Within s e f
of_fault g s e f h l k = at_place (fault_place g) s e f l k (ap fault_place (sym (err_same h)))

narrower : (s e s' e' : ℕ) (f : XmlReadError) → Within s e f → s' ≤ s → e ≤ e' → Within s' e' f
narrower s e s' e' f h l k = (omega (arith, h.0), omega (arith, h.1))

pub after_place : (t : List ℕ) (xs : Nodes) (around : List ℕ) (p : ℕ) (f : XmlReadError) → after_text t xs around p ≡ Err f → fault_place f ≡ p
after_place t no_nodes around p f h = ok_err h
after_place t (node (characters u) xs) around p f h = ap fault_place (sym (err_same h))
after_place t (node (cdata u) xs) around p f h = ap fault_place (sym (err_same h))
after_place t (node (element n as' nsp ys) xs) around p f h = ap fault_place (sym (err_same h))

pub text_within : (o : Result (List ℕ) XmlReadError) (xs : Nodes) (around : List ℕ) (p : ℕ) (f : XmlReadError) → (o ≡ Err f → fault_place f ≡ p) → text_in o xs around p ≡ Err f → Within p (suc (p + places_of xs)) f
text_within o no_nodes around p f g h = at_place p p (suc (p + 0)) f (omega arith) (omega arith) (g h)
text_within o (node (characters u) xs) around p f g h = at_place (suc p) p (suc (p + places_of (node (characters u) xs))) f (omega arith) (omega arith) (after_place u xs around (suc p) f h)
text_within o (node (cdata u) xs) around p f g h = at_place (suc p) p (suc (p + places_of (node (cdata u) xs))) f (omega arith) (omega arith) (after_place u xs around (suc p) f h)
text_within o (node (element n as' nsp ys) xs) around p f g h = of_fault (unexpected p around kinds.StartElement) p (suc (p + places_of (node (element n as' nsp ys) xs))) f h (omega arith) (omega arith)

alone_within : (o : Option ℕ) (t : List ℕ) (xs : Nodes) (around : List ℕ) (p : ℕ) (f : XmlReadError) → number_alone o t xs around p ≡ Err f → Within p (suc (suc p)) f
alone_within None t xs around p f h = of_fault (unreadable p around t (codes "u32")) p (suc (suc p)) f h (omega arith) (omega arith)
alone_within (Some n) t xs around p f h = bind_err (after_text t xs around (suc p)) (λ u. Ok (number n)) f h (λ z. at_place (suc p) p (suc (suc p)) f (omega arith) (omega arith) (after_place t xs around (suc p) f z)) (λ u i j. ok_err j)

pub number_within : (xs : Nodes) (around : List ℕ) (p : ℕ) (f : XmlReadError) → number_in xs around p ≡ Err f → Within p (suc (p + places_of xs)) f
number_within no_nodes around p f h = of_fault (unexpected p around kinds.EndElement) p (suc (p + 0)) f h (omega arith) (omega arith)
number_within (node (characters u) xs) around p f h = narrower p (suc (suc p)) p (suc (p + places_of (node (characters u) xs))) f (alone_within (number_of (trim u)) u xs around p f h) (omega arith) (omega arith)
number_within (node (cdata u) xs) around p f h = narrower p (suc (suc p)) p (suc (p + places_of (node (cdata u) xs))) f (alone_within (number_of (trim u)) u xs around p f h) (omega arith) (omega arith)
number_within (node (element n as' nsp ys) xs) around p f h = of_fault (unexpected p around kinds.StartElement) p (suc (p + places_of (node (element n as' nsp ys) xs))) f h (omega arith) (omega arith)

abbrev pub NoBillIn : Option Child → Type 0
NoBillIn None = Unit {0}
NoBillIn (Some c) = no_bill c.kind ≡ true

pub find_no_bill : (v : SpecVersion) (q : List ℕ) (cs : List Child) → no_bills cs ≡ true → NoBillIn (find_child v q cs)
find_no_bill v q [] h = tt
find_no_bill v q (c ∷ cs) h =
    let a : (no_bill c.kind ≡ true) × (no_bills cs ≡ true) = and_true (no_bill c.kind) (no_bills cs) h in by a.0 (bytes_eq q c.name && knows c.since v) (find_no_bill v q cs a.1)
  where
    by : no_bill c.kind ≡ true → (b : Bool) → NoBillIn (find_child v q cs) → NoBillIn (if b then Some c else find_child v q cs)
    by i true g = i
    by i false g = g

pub stray_place : (r : Rule) (s : EventKind) (around : List ℕ) (p : ℕ) (ts : Trees) (f : XmlReadError) → stray r s around p ts ≡ Err f → fault_place f ≡ p
stray_place passing s around p ts f h = ok_err h
stray_place lax s around p ts f h = ap fault_place (sym (err_same h))
stray_place strict s around p ts f h = ap fault_place (sym (err_same h))

unknown_place : (r : Rule) (around : List ℕ) (p : ℕ) (ts : Trees) (f : XmlReadError) → unknown r around p ts ≡ Err f → fault_place f ≡ p
unknown_place passing around p ts f h = ok_err h
unknown_place lax around p ts f h = ok_err h
unknown_place strict around p ts f h = ap fault_place (sym (err_same h))

-- A node's fault stands at its place, or is the fault of the child that it is read as.
child_fault : {Q : Type 0} (o : Option Child) (r : Rule) (read : ElementReading) (around : List ℕ) (v : SpecVersion) (d : Depth) (p : ℕ) (ts : Trees) (f : XmlReadError) → NoBillIn o → (fault_place f ≡ p → Q) → ((k : Kind) → no_bill k ≡ true → read v k p d ≡ Err f → Q)
    → child_read_into o r read around v d p ts ≡ Err f → Q
child_fault None r read around v d p ts f b here g h = here (unknown_place r around p ts f h)
child_fault {Q} (Some c) r read around v d p ts f b here g h = by (is_second c.place (field c.field ts)) h
  where
    by : (z : Bool) → (if z then Err (unexpected p around kinds.StartElement) else (read v c.kind p d >>= (λ t. Ok (stored c.place c.field t ts)))) ≡ Err f → Q
    by true i = here (ap fault_place (sym (err_same i)))
    by false i = bind_err (read v c.kind p d) (λ t. Ok (stored c.place c.field t ts)) f i (g c.kind b) (λ t j k. ok_err k)

node_fault : {Q : Type 0} (x : Node) (read : ElementReading) (plan : Plan) (around : List ℕ) (v : SpecVersion) (d : Depth) (p : ℕ) (ts : Trees) (f : XmlReadError) → no_bills plan.children ≡ true → (fault_place f ≡ p → Q) → ((k : Kind) → no_bill k ≡ true → read v k p d ≡ Err f → Q)
    → node_read x read plan around v d p ts ≡ Err f → Q
node_fault (characters t) read plan around v d p ts f b here g h = here (stray_place plan.rule _ around p ts f h)
node_fault (cdata t) read plan around v d p ts f b here g h = here (stray_place plan.rule _ around p ts f h)
node_fault (element n as' nsp xs) read plan around v d p ts f b here g h = child_fault (find_child v n.local_name plan.children) plan.rule read around v d p ts f (find_no_bill v n.local_name plan.children b) here g h

some_places : (x : Node) (p : ℕ) → p < p + places x
some_places (characters t) p = omega arith
some_places (cdata t) p = omega arith
some_places (element n as' nsp xs) p = omega arith

-- What is found in an element that starts at s stands within it, where its nodes' faults stand within them.
abbrev pub ShowsWithin : ℕ → ℕ → XmlReadError → List ℕ → Nodes → Rd → Type 0
ShowsWithin s e f n xs rd = Shows false (Within s e f) f n s xs xs rd rd

shows_within : (f : XmlReadError) (n : List ℕ) (s : ℕ) (xs : Nodes) (rd : Rd)
    → ((plan : Plan) (v : SpecVersion) (d : Depth) (ts : Trees) → no_bills plan.children ≡ true → rd plan v d ts ≡ Err f → Within (suc s) (suc s + places_of xs) f)
    → ShowsWithin s (s + suc (suc (places_of xs))) f n xs rd
shows_within f n s xs rd h = (
  λ plan v d ts b z. narrower (suc s) (suc s + places_of xs) s (s + suc (suc (places_of xs))) f (h plan v d ts b z) (omega arith) (omega arith),
  λ o g z. narrower (suc s) (suc (suc s + places_of xs)) s (s + suc (suc (places_of xs))) f (text_within o xs n (suc s) f g z) (omega arith) (omega arith),
  λ z. narrower (suc s) (suc (suc s + places_of xs)) s (s + suc (suc (places_of xs))) f (number_within xs n (suc s) f z) (omega arith) (omega arith),
  λ r e z. at_place s s (s + suc (suc (places_of xs))) f (omega arith) (omega arith) e,
  λ r e. at_place (suc (s + places_of xs)) s (s + suc (suc (places_of xs))) f (omega arith) (omega arith) e,
)

mutual
  unfolding xread

  pub xread_within : (x : Node) (v : SpecVersion) (k : Kind) (s : ℕ) (d : Depth) (f : XmlReadError) → no_bill k ≡ true → xread x v k s d ≡ Err f → Within s (s + places x) f
  xread_within (characters t) v k s d f b h = of_fault (unexpected s [] kinds.Characters) s (s + 1) f h (omega arith) (omega arith)
  xread_within (cdata t) v k s d f b h = of_fault (unexpected s [] kinds.CData) s (s + 1) f h (omega arith) (omega arith)
  xread_within (element n as' nsp xs) v k s d f b h =
      kind_out false (Within s (s + places (element n as' nsp xs)) f) f n.local_name as' nsp.default s xs xs (λ plan w e ts. nodes_read xs plan n.local_name w e (suc s) ts) (λ plan w e ts. nodes_read xs plan n.local_name w e (suc s) ts)
      (shows_within f n.local_name s xs (λ plan w e ts. nodes_read xs plan n.local_name w e (suc s) ts) (λ plan w e ts i z. nodes_within xs plan n.local_name w e (suc s) ts f i z)) v k d b h

  pub nodes_within : (xs : Nodes) (plan : Plan) (around : List ℕ) (v : SpecVersion) (d : Depth) (s : ℕ) (ts : Trees) (f : XmlReadError) → no_bills plan.children ≡ true → nodes_read xs plan around v d s ts ≡ Err f → Within s (s + places_of xs) f
  nodes_within no_nodes plan around v d s ts f b h = ok_err h
  nodes_within (node x xs) plan around v d s ts f b h =
      bind_err (node_read x (xread x) plan around v d s ts) (λ us. nodes_read xs plan around v d (s + places x) us) f h
      (λ z. narrower s (s + places x) s (s + (places x + places_of xs)) f
      (node_fault x (xread x) plan around v d s ts f b (at_place s s (s + places x) f (omega arith) (some_places x s)) (λ k i j. xread_within x v k s d f i j) z) (omega arith) (omega arith))
      (λ us i z. narrower (s + places x) (s + places x + places_of xs) s (s + (places x + places_of xs)) f (nodes_within xs plan around v d (s + places x) us f b z) (omega arith) (omega arith))

-- ---- the root

root_within : (n : OwnedName) (as' : List OwnedAttribute) (c : Namespace) (xs : Nodes) (v : SpecVersion) (f : XmlReadError) → xread (element n as' c xs) v a_bill 1 top ≡ Err f → Within 1 (1 + suc (suc (places_of xs))) f
unfolding xread
root_within n as' c xs v f h = by (bytes_eq n.local_name (codes "bom")) (in_namespace c.default (namespace v)) h
  where
    by : (b e : Bool) → (if b then (if e then record_denoted (elem n.local_name as' c.default 1 xs (λ plan w e' ts. nodes_read xs plan n.local_name w e' 2 ts)) bill v top else Err (namespaced (namespace v) c.default)) else Err (unexpected 1 (codes "bom") kinds.StartElement)) ≡ Err f
        → Within 1 (1 + suc (suc (places_of xs))) f
    by true true g = record_out false (Within 1 (1 + suc (suc (places_of xs))) f) f n.local_name as' c.default 1 xs xs (λ plan w e' ts. nodes_read xs plan n.local_name w e' 2 ts) (λ plan w e' ts. nodes_read xs plan n.local_name w e' 2 ts)
        (shows_within f n.local_name 1 xs (λ plan w e' ts. nodes_read xs plan n.local_name w e' 2 ts) (λ plan w e' ts i z. nodes_within xs plan n.local_name w e' 2 ts f i z)) bill v top g
    by true false g = of_fault (namespaced (namespace v) c.default) 1 (1 + suc (suc (places_of xs))) f g (omega arith) (omega arith)
    by false e g = of_fault (unexpected 1 (codes "bom") kinds.StartElement) 1 (1 + suc (suc (places_of xs))) f g (omega arith) (omega arith)

-- A document's first fault stands within its root.
pub denoted_within : (x : Node) (v : SpecVersion) (f : XmlReadError) → xml_denotes x v ≡ Err f → Within 1 (1 + places x) f
unfolding xread
denoted_within (characters t) v f h = of_fault (unexpected 1 [] kinds.Characters) 1 2 f h (omega arith) (omega arith)
denoted_within (cdata t) v f h = of_fault (unexpected 1 [] kinds.CData) 1 2 f h (omega arith) (omega arith)
denoted_within (element n as' c xs) v f h = root_within n as' c xs v f h

pub refuses_by_faults : RefusesByFaults
refuses_by_faults x v f h = by f (denoted_within x v f h).0
  where
    none_below : 1 ≤ 0 → ⊥
    none_below i = omega (arith, i)

    by : (f : XmlReadError) → 1 ≤ fault_place f → IsDocumentFault f
    by (UnexpectedElementReadError p around found) i = tt
    by (RequiredDataMissing p around name) i = tt
    by (InvalidParseError p around value type) i = tt
    by (InvalidNamespaceError expected actual) i = tt
    by (TooDeep p) i = tt
    by (ElementReadError kind p) i = none_below i
    by (RequiredAttributeMissing p around _) i = none_below i
    by (Memory e) i = none_below i
