-- Less what a road takes, a bill is the same as after the road.
use Rattle.std.specs.Prelude.{◌≡◌, refl, ℕ, zero, suc, List, [], ◌∷◌, Bool, true, false, not, ◌&&◌, ◌||◌, if◌then◌else◌, Option, Some, None, ◌⊎◌}
use Rattle.std.proofs.Common.{true≢false, inl, inr}
use mathlib.Core.Path.{ap, sym, ◌∙◌, subst}
use Rattle.cdx_models.specs.declared.bom.SpecVersion.{SpecVersion}
use Rattle.cdx_models.specs.declared.bom.SpecVersion.TheVariants.{V1_3, V1_4, V1_5}
use Rattle.cdx_models.specs.Versions.{knows}
use Rattle.cdx_models.specs.Trees.{Name, hash, classification, service_data, tools_object, Tree, absent, text, number, boolean, items, fields, Trees, none, more, two, field, is_absent, all_absent}
use Rattle.cdx_schema.specs.Kinds.{Kind, a_text, a_record, a_license_choice, a_license_identifier, a_tools, an_entry, a_signature, a_bill, Need, optional, Spelled, attribute, attribute_or, content, one_text, as_cdata, child, filled_child, children, either_child, the_version, Row}
use Rattle.cdx_schema.specs.Held.{held_kind}
use Rattle.cdx_schema.specs.Table.{rows}
use Rattle.cdx_schema.specs.Keeping.{kept, items_kept, rows_kept, kept_record, before_1_5}
use Rattle.cdx_schema.specs.Membership.{AnyText, HasShape, HaveShape, FieldsHaveShape, IsRecordOf}
use Rattle.cdx_schema.specs.JsonReading.{or_else}
use Rattle.cdx_schema.specs.Trips.{bare, items_bare, rows_bare, field_after, none_is_absent, is_hollow, is_passed_over, settled, list_settled, items_settled, rows_settled, Form, in_json, in_xml, Hop, trips, lowest_of, last_of}
use Rattle.cdx_schema.specs.Suppliers.{is_supplier, unsupplied, items_unsupplied, rows_unsupplied}
use Rattle.cdx_schema.specs.Laws.{HasBillShape, xml_count}
use Rattle.cdx_schema.proofs.JsonBack.{and_true}
use Rattle.cdx_schema.proofs.KeptOf.{IsField, of_there}
use Rattle.cdx_schema.proofs.KeptTwice.{stays}
use Rattle.cdx_schema.proofs.ReadOfXml.{none_some}
use Rattle.cdx_schema.proofs.TrippedOf.{bare_of}
use Rattle.cdx_schema.proofs.Commute.{bare_kept}
use Rattle.cdx_schema.proofs.BareTwice.{bare_twice}
use Rattle.cdx_schema.proofs.XmlLaw.{absent_is}
use Rattle.cdx_losses.specs.declared.loss.Reason.{Reason}
use Rattle.cdx_losses.specs.declared.loss.Reason.TheVariants.{Version, Tools, Flow, Xml}
use Rattle.cdx_losses.specs.Losses.{reason_in, changed_by, is_tripped, is_skipped, if_so, field_reason, field_struck, item_struck}
use Rattle.cdx_losses.specs.Laws.{StrikesRoads}
use Rattle.cdx_losses.proofs.Members.{is_steady, steady_after}
use Rattle.cdx_losses.proofs.Cut.{cut, items_cut, rows_cut, own_struck}
use Rattle.cdx_schema.proofs.Basics.{more_is, some_same}
use Rattle.cdx_losses.proofs.Spared.{reason_there, not_skipped}

-- ---- what trips leave, counted to two

abbrev pub left : ℕ → Tree → Tree
left zero t = t
left (suc zero) t = bare t
left (suc (suc n)) t = unsupplied (bare t)

abbrev items_left : ℕ → Trees → Trees
items_left zero ts = ts
items_left (suc zero) ts = items_bare ts
items_left (suc (suc n)) ts = items_unsupplied (items_bare ts)

abbrev rows_left : ℕ → Trees → List Row → Trees
rows_left zero ts rs = ts
rows_left (suc zero) ts rs = rows_bare ts rs
rows_left (suc (suc n)) ts rs = rows_unsupplied (rows_bare ts rs) rs

-- what the second trip leaves of a field
abbrev second : Row → Tree → Tree
second r x = if is_supplier r.xml r.kind && is_hollow x then absent else unsupplied x

abbrev field_left : ℕ → Row → Tree → Tree
field_left zero r t = t
field_left (suc zero) r t = field_after r t (bare t)
field_left (suc (suc n)) r t = second r (field_after r t (bare t))

text_left : (n : ℕ) (s : List ℕ) → left n (text s) ≡ text s
unfolding bare unsupplied
text_left zero s = refl
text_left (suc zero) s = refl
text_left (suc (suc n)) s = refl

number_left : (n m : ℕ) → left n (number m) ≡ number m
unfolding bare unsupplied
number_left zero m = refl
number_left (suc zero) m = refl
number_left (suc (suc n)) m = refl

boolean_left : (n : ℕ) (b : Bool) → left n (boolean b) ≡ boolean b
unfolding bare unsupplied
boolean_left zero b = refl
boolean_left (suc zero) b = refl
boolean_left (suc (suc n)) b = refl

list_left : (n : ℕ) (ts : Trees) → left n (items ts) ≡ items (items_left n ts)
unfolding bare unsupplied
list_left zero ts = refl
list_left (suc zero) ts = refl
list_left (suc (suc n)) ts = refl

record_left : (n : ℕ) (m : Name) (ts : Trees) → left n (fields m ts) ≡ fields m (rows_left n ts (rows m))
unfolding bare unsupplied
record_left zero m ts = refl
record_left (suc zero) m ts = refl
record_left (suc (suc n)) m ts = refl

none_left : (n : ℕ) → items_left n none ≡ none
unfolding bare unsupplied
none_left zero = refl
none_left (suc zero) = refl
none_left (suc (suc n)) = refl

no_rows_left : (n : ℕ) (rs : List Row) → rows_left n none rs ≡ none
unfolding bare unsupplied
no_rows_left zero rs = refl
no_rows_left (suc zero) rs = refl
no_rows_left (suc (suc n)) rs = refl

second_item : (b : Bool) (t : Tree) (ts : Trees) → items_unsupplied (if b then ts else more t ts) ≡ (if b then items_unsupplied ts else more (unsupplied t) (items_unsupplied ts))
unfolding unsupplied
second_item true t ts = refl
second_item false t ts = refl

more_left : (n : ℕ) (t : Tree) (ts : Trees) → items_left n (more t ts) ≡ (if is_skipped n t then items_left n ts else more (left n t) (items_left n ts))
unfolding bare unsupplied
more_left zero t ts = refl
more_left (suc zero) t ts = refl
more_left (suc (suc n)) t ts = second_item (is_passed_over t) (bare t) (items_bare ts)

row_left : (n : ℕ) (t : Tree) (ts : Trees) (r : Row) (rs : List Row) → rows_left n (more t ts) (r ∷ rs) ≡ more (field_left n r t) (rows_left n ts rs)
unfolding bare unsupplied
row_left zero t ts r rs = refl
row_left (suc zero) t ts r rs = refl
row_left (suc (suc n)) t ts r rs = refl

-- ---- a field after trips

-- The first trip makes it absent, or looks into it.
first_trip : (r : Row) (t u : Tree) → (field_after r t u ≡ absent) ⊎ (field_after r t u ≡ u)
first_trip r t u = by r.xml
  where
    hollow : (b : Bool) → ((if b then absent else u) ≡ absent) ⊎ ((if b then absent else u) ≡ u)
    hollow true = inl refl
    hollow false = inr refl

    empty : (n : Need) (x : Tree) → (none_is_absent n x ≡ absent) ⊎ (none_is_absent n x ≡ x)
    empty optional (items none) = inl refl
    empty optional (items (more y ys)) = inr refl
    empty optional absent = inr refl
    empty optional (text s) = inr refl
    empty optional (number s) = inr refl
    empty optional (boolean s) = inr refl
    empty optional (fields m ys) = inr refl
    empty _ x = inr refl

    by : (x : Spelled) → (field_after (record r { xml = x }) t u ≡ absent) ⊎ (field_after (record r { xml = x }) t u ≡ u)
    by (filled_child q) = hollow (is_hollow t)
    by (children q) = empty r.need u
    by (attribute q) = inr refl
    by (attribute_or q m) = inr refl
    by content = inr refl
    by one_text = inr refl
    by as_cdata = inr refl
    by (child q) = inr refl
    by (either_child q m) = inr refl
    by the_version = inr refl

second_absent : (r : Row) → second r absent ≡ absent
unfolding unsupplied is_hollow
second_absent r = by (is_supplier r.xml r.kind)
  where
    by : (b : Bool) → (if b && false then absent else absent) ≡ absent
    by true = refl
    by false = refl

-- It is taken.
gone_left : (n : ℕ) (r : Row) (t : Tree) → is_tripped n r t ≡ true → field_left n r t ≡ absent
gone_left zero r t h = absurd (true≢false (sym h))
gone_left (suc zero) r t h = absent_is (field_after r t (bare t)) h
gone_left (suc (suc n)) r t h = by (first_trip r t (bare t))
  where
    c : Bool
    c = is_supplier r.xml r.kind && is_hollow (bare t)

    split : (a b : Bool) → (a || b) ≡ true → (a ≡ true) ⊎ (b ≡ true)
    split true b e = inl refl
    split false b e = inr e

    by : (field_after r t (bare t) ≡ absent) ⊎ (field_after r t (bare t) ≡ bare t) → second r (field_after r t (bare t)) ≡ absent
    by (inl e) = ap (second r) e ∙ second_absent r
    by (inr e) = elim (split (is_absent (field_after r t (bare t))) c h) [
      | inl a ↦ ap (second r) (absent_is (field_after r t (bare t)) a) ∙ second_absent r
      | inr a ↦ ap (second r) e ∙ ap (λ b. if b then absent else unsupplied (bare t)) a
    ]

-- It isn't taken.
stays_left : (n : ℕ) (r : Row) (t : Tree) → is_tripped n r t ≡ false → field_left n r t ≡ left n t
stays_left zero r t h = refl
stays_left (suc zero) r t h = elim (first_trip r t (bare t)) [ inl e ↦ absurd (true≢false (sym (ap is_absent e) ∙ h)) | inr e ↦ e ]
stays_left (suc (suc n)) r t h = by (first_trip r t (bare t))
  where
    c : Bool
    c = is_supplier r.xml r.kind && is_hollow (bare t)

    split : (a b : Bool) → (a || b) ≡ false → (a ≡ false) × (b ≡ false)
    split true b e = absurd (true≢false e)
    split false b e = (refl, e)

    by : (field_after r t (bare t) ≡ absent) ⊎ (field_after r t (bare t) ≡ bare t) → second r (field_after r t (bare t)) ≡ unsupplied (bare t)
    by (inl e) = absurd (true≢false (sym (ap is_absent e) ∙ (split (is_absent (field_after r t (bare t))) c h).0))
    by (inr e) = ap (second r) e ∙ ap (λ b. if b then absent else unsupplied (bare t)) (split (is_absent (field_after r t (bare t))) c h).1

absent_left : (n : ℕ) (r : Row) → field_left n r absent ≡ absent
unfolding bare
absent_left zero r = refl
absent_left (suc zero) r = elim (first_trip r absent absent) [ inl e ↦ e | inr e ↦ e ]
absent_left (suc (suc n)) r = elim (first_trip r absent absent) [ inl e ↦ ap (second r) e ∙ second_absent r | inr e ↦ ap (second r) e ∙ second_absent r ]

-- A steady field isn't taken, and no supplier.
steady_left : (n : ℕ) (r : Row) (t : Tree) → is_steady r.xml ≡ true → field_left n r t ≡ left n t
steady_left zero r t h = refl
steady_left (suc zero) r t h = steady_after r t (bare t) h
steady_left (suc (suc n)) r t h = ap (second r) (steady_after r t (bare t) h) ∙ by r.xml h
  where
    by : (x : Spelled) → is_steady x ≡ true → second (record r { xml = x }) (bare t) ≡ unsupplied (bare t)
    by (filled_child q) e = absurd (true≢false (sym e))
    by _ e = refl

-- ---- what a version changes

-- Only a tools object and an entry are changed, and their rows are steady.
abbrev is_changing : Kind → Bool
is_changing a_tools = true
is_changing an_entry = true
is_changing _ = false

abbrev is_firm : Row → Bool
is_firm r = if is_changing r.kind then is_steady r.xml else true

abbrev pub all_firm : List Row → Bool
all_firm [] = true
all_firm (r ∷ rs) = is_firm r && all_firm rs

firm : (n : Name) → all_firm (rows n) ≡ true
unfolding rows
firm hash = refl
firm _ = refl

-- A classification stays as it is.
plain_text : (t : Tree) → HasShape t a_text → (s : List ℕ) × (t ≡ text s)
plain_text (text s) h = (s, refl)
plain_text absent h = absurd (true≢false h)
plain_text (number m) h = absurd (true≢false h)
plain_text (boolean b) h = absurd (true≢false h)
plain_text (items ts) h = absurd (true≢false h.0)
plain_text (fields m ts) h = absurd (true≢false h.0)

required_of : (t : Tree) (k : Kind) → ((t ≡ absent) × (false ≡ true)) ⊎ HasShape t k → HasShape t k
required_of t k (inl h) = absurd (true≢false (sym h.1))
required_of t k (inr h) = h

two_texts : (u l : SpecVersion) (n : ℕ) (x y : List ℕ) → kept u l (left n (fields classification (two (text x) (text y)))) (a_record classification) ≡ fields classification (two (text x) (text y))
unfolding rows kept bare unsupplied
two_texts V1_3 l zero x y = refl
two_texts V1_3 l (suc zero) x y = refl
two_texts V1_3 l (suc (suc n)) x y = refl
two_texts V1_4 l zero x y = refl
two_texts V1_4 l (suc zero) x y = refl
two_texts V1_4 l (suc (suc n)) x y = refl
two_texts V1_5 l zero x y = refl
two_texts V1_5 l (suc zero) x y = refl
two_texts V1_5 l (suc (suc n)) x y = refl

class_fields : (u l : SpecVersion) (n : ℕ) (ts : Trees) → FieldsHaveShape ts (rows classification) → kept u l (left n (fields classification ts)) (a_record classification) ≡ fields classification ts
unfolding rows
class_fields u l n none h = absurd (true≢false h)
class_fields u l n (more a none) h = absurd (true≢false h.1)
class_fields u l n (more a (more b none)) h =
    let x : (s : List ℕ) × (a ≡ text s) = plain_text a (required_of a a_text h.0) in
    let y : (s : List ℕ) × (b ≡ text s) = plain_text b (required_of b a_text h.1.0) in
    rw (x.1, y.1) (two_texts u l n x.0 y.0)
class_fields u l n (more a (more b (more c ts))) h = absurd (true≢false h.1.1)

class_stays : (u l : SpecVersion) (n : ℕ) (t : Tree) → HasShape t (a_record classification) → kept u l (left n t) (a_record classification) ≡ t
class_stays u l n (fields m ts) h = subst (λ (j : Name). FieldsHaveShape ts (rows j) → kept u l (left n (fields j ts)) (a_record classification) ≡ fields j ts) (sym h.0) (class_fields u l n ts) h.1
class_stays u l n absent h = absurd (true≢false h)
class_stays u l n (text s) h = absurd (true≢false h)
class_stays u l n (number m) h = absurd (true≢false h)
class_stays u l n (boolean b) h = absurd (true≢false h)
class_stays u l n (items ts) h = absurd (true≢false h.0)

third_stays : (u l : SpecVersion) (n : ℕ) (ts : Trees) → FieldsHaveShape ts (rows service_data) → field 2 (rows_kept u l (rows_left n ts (rows service_data)) (rows service_data)) ≡ field 2 ts
unfolding rows kept bare unsupplied
third_stays u l n none h = absurd (true≢false h)
third_stays u l n (more a none) h = absurd (true≢false h.1)
third_stays u l n (more a (more b none)) h = absurd (true≢false h.1.1)
third_stays u l zero (more a (more b (more c ts))) h = class_stays u l zero c (required_of c (a_record classification) h.1.1.0)
third_stays u l (suc zero) (more a (more b (more c ts))) h = class_stays u l 1 c (required_of c (a_record classification) h.1.1.0)
third_stays u l (suc (suc n)) (more a (more b (more c ts))) h = class_stays u l 2 c (required_of c (a_record classification) h.1.1.0)

-- What stands for the tree of a kind is what a version keeps of what the trips leave, and no trip takes it.
abbrev Changed : SpecVersion → SpecVersion → ℕ → Tree → Kind → Reason → Type 0
Changed u l n t k why = ((c : Tree) → field_struck (Some why) t c ≡ kept u l (left n t) k) × ((c : Tree) (us : Trees) → item_struck (Some why) t c us ≡ more (kept u l (left n t) k) us) × (is_skipped n t ≡ false) × (is_changing k ≡ true)

changed_tools : (u l : SpecVersion) (n : ℕ) (ts : Trees) → items none ≡ kept u l (left n (fields tools_object ts)) a_tools → Changed u l n (fields tools_object ts) a_tools Tools
changed_tools u l n ts e = (λ c. e, λ c us. more_is e refl, not_skipped n (fields tools_object ts) refl, refl)

changed_flow : (u l : SpecVersion) (n : ℕ) (ts : Trees) → field 2 ts ≡ kept u l (left n (fields service_data ts)) an_entry → Changed u l n (fields service_data ts) an_entry Flow
changed_flow u l n ts e = (λ c. e, λ c us. more_is e refl, not_skipped n (fields service_data ts) refl, refl)

tools_reason : (b : Bool) (why : Reason) → (if b then None else Some Tools) ≡ Some why → Tools ≡ why
tools_reason true why e = none_some e
tools_reason false why e = some_same e

tools_changed : (u l : SpecVersion) (n : ℕ) (ts : Trees) (why : Reason) → reason_in u a_tools tools_object ts ≡ Some why → Changed u l n (fields tools_object ts) a_tools why
unfolding kept
tools_changed V1_3 l n ts why e = subst (Changed V1_3 l n (fields tools_object ts) a_tools) (tools_reason (all_absent ts) why e) (changed_tools V1_3 l n ts (sym (ap (λ x. kept V1_3 l x a_tools) (record_left n tools_object ts))))
tools_changed V1_4 l n ts why e = subst (Changed V1_4 l n (fields tools_object ts) a_tools) (tools_reason (all_absent ts) why e) (changed_tools V1_4 l n ts (sym (ap (λ x. kept V1_4 l x a_tools) (record_left n tools_object ts))))
tools_changed V1_5 l n ts why e = none_some e

flow_changed : (u l : SpecVersion) (n : ℕ) (ts : Trees) (why : Reason) → reason_in u an_entry service_data ts ≡ Some why → FieldsHaveShape ts (rows service_data) → Changed u l n (fields service_data ts) an_entry why
unfolding kept
flow_changed V1_3 l n ts why e h = subst (Changed V1_3 l n (fields service_data ts) an_entry) (some_same e) (changed_flow V1_3 l n ts (sym (ap (λ x. kept V1_3 l x an_entry) (record_left n service_data ts) ∙ third_stays V1_3 l n ts h)))
flow_changed V1_4 l n ts why e h = subst (Changed V1_4 l n (fields service_data ts) an_entry) (some_same e) (changed_flow V1_4 l n ts (sym (ap (λ x. kept V1_4 l x an_entry) (record_left n service_data ts) ∙ third_stays V1_4 l n ts h)))
flow_changed V1_5 l n ts why e h = none_some e

plain_reason : (u : SpecVersion) (k : Kind) (m : Name) (ts : Trees) → is_changing k ≡ false → reason_in u k m ts ≡ None
plain_reason V1_3 a_tools m ts h = absurd (true≢false h)
plain_reason V1_3 an_entry m ts h = absurd (true≢false h)
plain_reason V1_3 _ m ts h = refl
plain_reason V1_4 a_tools m ts h = absurd (true≢false h)
plain_reason V1_4 an_entry m ts h = absurd (true≢false h)
plain_reason V1_4 _ m ts h = refl
plain_reason V1_5 k m ts h = refl

class_reason : (u : SpecVersion) (ts : Trees) → reason_in u an_entry classification ts ≡ None
class_reason V1_3 ts = refl
class_reason V1_4 ts = refl
class_reason V1_5 ts = refl

unchanged : (u l : SpecVersion) (n : ℕ) (k : Kind) (m : Name) (ts : Trees) (why : Reason) → is_changing k ≡ false → reason_in u k m ts ≡ Some why → Changed u l n (fields m ts) k why
unchanged u l n k m ts why h e = none_some (sym (plain_reason u k m ts h) ∙ e)

record_changed : (u l : SpecVersion) (n : ℕ) (k : Kind) (m : Name) (ts : Trees) (why : Reason) → IsRecordOf k m ts → FieldsHaveShape ts (rows m) → reason_in u k m ts ≡ Some why → Changed u l n (fields m ts) k why
record_changed u l n a_tools m ts why is h e = subst (λ (j : Name). reason_in u a_tools j ts ≡ Some why → Changed u l n (fields j ts) a_tools why) (sym is) (tools_changed u l n ts why) e
record_changed u l n an_entry m ts why (inl is) h e = none_some (sym (ap (λ j. reason_in u an_entry j ts) is ∙ class_reason u ts) ∙ e)
record_changed u l n an_entry m ts why (inr is) h e = subst (λ (j : Name). reason_in u an_entry j ts ≡ Some why → FieldsHaveShape ts (rows j) → Changed u l n (fields j ts) an_entry why) (sym is.0) (flow_changed u l n ts why) e h
record_changed u l n (a_record j) m ts why is h e = unchanged u l n (a_record j) m ts why refl e
record_changed u l n a_license_choice m ts why is h e = unchanged u l n a_license_choice m ts why refl e
record_changed u l n a_license_identifier m ts why is h e = unchanged u l n a_license_identifier m ts why refl e
record_changed u l n a_signature m ts why is h e = unchanged u l n a_signature m ts why refl e
record_changed u l n a_bill m ts why is h e = unchanged u l n a_bill m ts why refl e
record_changed u l n _ m ts why is h e = absurd (true≢false is)

changed : (u l : SpecVersion) (n : ℕ) (t : Tree) (k : Kind) (why : Reason) → HasShape t k → changed_by u k t ≡ Some why → Changed u l n t k why
changed u l n (fields m ts) k why h e = record_changed u l n k m ts why h.0 h.1 e
changed u l n absent k why h e = none_some e
changed u l n (text s) k why h e = none_some e
changed u l n (number m) k why h e = none_some e
changed u l n (boolean b) k why h e = none_some e
changed u l n (items ts) k why h e = none_some e

-- ---- records

-- Less what is taken of it, a tree is the same as what a version keeps of what trips leave.
abbrev Alike : SpecVersion → SpecVersion → ℕ → Tree → Kind → Type 0
Alike u l n t k = settled (cut u n l t k) k ≡ settled (kept u l (left n t) k) k

abbrev AlikeRows : SpecVersion → SpecVersion → ℕ → Trees → List Row → Type 0
AlikeRows u l n ts rs = rows_settled (rows_cut u n l ts rs) rs ≡ rows_settled (rows_kept u l (rows_left n ts rs) rs) rs

abbrev AlikeRecord : SpecVersion → SpecVersion → ℕ → Kind → Name → Trees → Type 0
AlikeRecord u l n k m ts = settled (fields m (rows_cut u n l ts (rows m))) k ≡ settled (kept_record u k m (rows_kept u l (rows_left n ts (rows m)) (rows m))) k

plain_alike : (u l : SpecVersion) (n : ℕ) (k : Kind) (m : Name) (ts : Trees) → before_1_5 k m (rows_kept u l (rows_left n ts (rows m)) (rows m)) ≡ fields m (rows_kept u l (rows_left n ts (rows m)) (rows m)) → AlikeRows u l n ts (rows m) → AlikeRecord u l n k m ts
unfolding settled
plain_alike u l n k m ts e f = ap (fields m) f ∙ sym (ap (λ x. settled x k) (stays u k m (rows_kept u l (rows_left n ts (rows m)) (rows m)) e))

no_tools_reason : (b : Bool) → (if b then None else Some Tools) ≡ None → b ≡ true
no_tools_reason true e = refl
no_tools_reason false e = none_some (sym e)

-- A tools object without parts is the same as an empty tool list.
no_parts : (u l : SpecVersion) (n : ℕ) (ts : Trees) → FieldsHaveShape ts (rows tools_object) → all_absent ts ≡ true → settled (fields tools_object (rows_cut u n l ts (rows tools_object))) a_tools ≡ settled (items none) a_tools
unfolding rows cut settled
no_parts u l n (more absent (more absent none)) h e = refl
no_parts u l n none h e = absurd (true≢false h)
no_parts u l n (more a none) h e = absurd (true≢false h.1)
no_parts u l n (more absent (more absent (more c ts))) h e = absurd (true≢false h.1.1)
no_parts u l n (more absent (more (text s) ts)) h e = absurd (true≢false (sym e))
no_parts u l n (more absent (more (number s) ts)) h e = absurd (true≢false (sym e))
no_parts u l n (more absent (more (boolean s) ts)) h e = absurd (true≢false (sym e))
no_parts u l n (more absent (more (items s) ts)) h e = absurd (true≢false (sym e))
no_parts u l n (more absent (more (fields m s) ts)) h e = absurd (true≢false (sym e))
no_parts u l n (more (text s) ts) h e = absurd (true≢false (sym e))
no_parts u l n (more (number s) ts) h e = absurd (true≢false (sym e))
no_parts u l n (more (boolean s) ts) h e = absurd (true≢false (sym e))
no_parts u l n (more (items s) ts) h e = absurd (true≢false (sym e))
no_parts u l n (more (fields m s) ts) h e = absurd (true≢false (sym e))

tools_alike : (u l : SpecVersion) (n : ℕ) (ts : Trees) → FieldsHaveShape ts (rows tools_object) → reason_in u a_tools tools_object ts ≡ None → AlikeRows u l n ts (rows tools_object) → AlikeRecord u l n a_tools tools_object ts
tools_alike V1_3 l n ts h e f = no_parts V1_3 l n ts h (no_tools_reason (all_absent ts) e)
tools_alike V1_4 l n ts h e f = no_parts V1_4 l n ts h (no_tools_reason (all_absent ts) e)
tools_alike V1_5 l n ts h e f = unfold settled in ap (fields tools_object) f

flow_alike : (u l : SpecVersion) (n : ℕ) (ts : Trees) → reason_in u an_entry service_data ts ≡ None → AlikeRows u l n ts (rows service_data) → AlikeRecord u l n an_entry service_data ts
flow_alike V1_3 l n ts e f = none_some (sym e)
flow_alike V1_4 l n ts e f = none_some (sym e)
flow_alike V1_5 l n ts e f = unfold settled in ap (fields service_data) f

record_alike : (u l : SpecVersion) (n : ℕ) (k : Kind) (m : Name) (ts : Trees) → IsRecordOf k m ts → FieldsHaveShape ts (rows m) → reason_in u k m ts ≡ None → AlikeRows u l n ts (rows m) → AlikeRecord u l n k m ts
record_alike u l n a_tools m ts is h e f = subst (λ (j : Name). FieldsHaveShape ts (rows j) → reason_in u a_tools j ts ≡ None → AlikeRows u l n ts (rows j) → AlikeRecord u l n a_tools j ts) (sym is) (tools_alike u l n ts) h e f
record_alike u l n an_entry m ts (inl is) h e f = subst (λ (j : Name). AlikeRows u l n ts (rows j) → AlikeRecord u l n an_entry j ts) (sym is) (plain_alike u l n an_entry classification ts refl) f
record_alike u l n an_entry m ts (inr is) h e f = subst (λ (j : Name). reason_in u an_entry j ts ≡ None → AlikeRows u l n ts (rows j) → AlikeRecord u l n an_entry j ts) (sym is.0) (flow_alike u l n ts) e f
record_alike u l n (a_record j) m ts is h e f = plain_alike u l n (a_record j) m ts refl f
record_alike u l n a_license_choice m ts is h e f = plain_alike u l n a_license_choice m ts refl f
record_alike u l n a_license_identifier m ts is h e f = plain_alike u l n a_license_identifier m ts refl f
record_alike u l n a_signature m ts is h e f = plain_alike u l n a_signature m ts refl f
record_alike u l n a_bill m ts is h e f = plain_alike u l n a_bill m ts refl f
record_alike u l n _ m ts is h e f = absurd (true≢false is)

-- ---- fields and items

firm_steady : (r : Row) → is_firm r ≡ true → is_changing r.kind ≡ true → is_steady r.xml ≡ true
firm_steady r f c = sym (ap (λ b. if b then is_steady r.xml else true) c) ∙ f

abbrev IfUnchanged : SpecVersion → SpecVersion → ℕ → Tree → Kind → Type 0
IfUnchanged u l n t k = HasShape t k → changed_by u k t ≡ None → Alike u l n t k

there_alike : (u l : SpecVersion) (n : ℕ) (t : Tree) (r : Row) → is_firm r ≡ true → HasShape t r.kind → IfUnchanged u l n t r.kind
    → (b : Bool) (o : Option Reason) (c : Bool) → changed_by u r.kind t ≡ o → is_tripped n r t ≡ c
    → settled (field_struck (or_else (if_so (not b) Version) (or_else o (if_so c Xml))) t (cut u n l t r.kind)) r.kind ≡ settled (if b then kept u l (field_left n r t) r.kind else absent) r.kind
unfolding kept
there_alike u l n t r firm h f false o c e g = refl
there_alike u l n t r firm h f true (Some why) c e g =
    let d : Changed u l n t r.kind why = changed u l n t r.kind why h e in
    ap (λ x. settled x r.kind) (d.0 (cut u n l t r.kind)) ∙ sym (ap (λ x. settled (kept u l x r.kind) r.kind) (steady_left n r t (firm_steady r firm d.3)))
there_alike u l n t r firm h f true None true e g = sym (ap (λ x. settled (kept u l x r.kind) r.kind) (gone_left n r t g))
there_alike u l n t r firm h f true None false e g = f h e ∙ sym (ap (λ x. settled (kept u l x r.kind) r.kind) (stays_left n r t g))

absent_alike : (u l : SpecVersion) (n : ℕ) (r : Row) → settled (field_struck (field_reason u n r absent) absent (cut u n l absent r.kind)) r.kind ≡ settled (if knows r.since u then kept u l (field_left n r absent) r.kind else absent) r.kind
unfolding kept cut settled
absent_alike u l n r = by (knows r.since u)
  where
    by : (b : Bool) → absent ≡ settled (if b then kept u l (field_left n r absent) r.kind else absent) r.kind
    by true = sym (ap (λ x. settled (kept u l x r.kind) r.kind) (absent_left n r))
    by false = refl

field_alike : (u l : SpecVersion) (n : ℕ) (t : Tree) (r : Row) → is_firm r ≡ true → IsField t r → IfUnchanged u l n t r.kind
    → settled (field_struck (field_reason u n r t) t (cut u n l t r.kind)) r.kind ≡ settled (if knows r.since u then kept u l (field_left n r t) r.kind else absent) r.kind
field_alike u l n t r firm (inl h) f = subst (λ (x : Tree). settled (field_struck (field_reason u n r x) x (cut u n l x r.kind)) r.kind ≡ settled (if knows r.since u then kept u l (field_left n r x) r.kind else absent) r.kind) (sym h.0) (absent_alike u l n r)
field_alike u l n t r firm (inr h) f =
    ap (λ o. settled (field_struck o t (cut u n l t r.kind)) r.kind) (reason_there u n r t (of_there AnyText t r.kind h))
    ∙ there_alike u l n t r firm h f (knows r.since u) (changed_by u r.kind t) (is_tripped n r t) refl refl

item_alike : (u l : SpecVersion) (n : ℕ) (t : Tree) (ts : Trees) (k : Kind) → HasShape t k → IfUnchanged u l n t k → items_settled (items_cut u n l ts k) k ≡ items_settled (items_kept u l (items_left n ts) k) k
    → (o : Option Reason) (c : Bool) → changed_by u k t ≡ o → is_skipped n t ≡ c
    → items_settled (item_struck (or_else o (if_so c Xml)) t (cut u n l t k) (items_cut u n l ts k)) k ≡ items_settled (items_kept u l (if c then items_left n ts else more (left n t) (items_left n ts)) k) k
unfolding kept settled
item_alike u l n t ts k h f rest (Some why) true e g = absurd (true≢false (sym g ∙ (changed u l n t k why h e).2))
item_alike u l n t ts k h f rest (Some why) false e g = ap (λ xs. items_settled xs k) ((changed u l n t k why h e).1 (cut u n l t k) (items_cut u n l ts k)) ∙ more_is refl rest
item_alike u l n t ts k h f rest None true e g = rest
item_alike u l n t ts k h f rest None false e g = more_is (f h e) rest

mutual
  unfolding kept cut settled

  cut_alike : (u l : SpecVersion) (n : ℕ) (t : Tree) (k : Kind) → IfUnchanged u l n t k
  cut_alike u l n absent k h e = absurd (true≢false h)
  cut_alike u l n (text s) k h e = sym (ap (λ x. settled (kept u l x k) k) (text_left n s))
  cut_alike u l n (number m) k h e = sym (ap (λ x. settled (kept u l x k) k) (number_left n m))
  cut_alike u l n (boolean b) k h e = sym (ap (λ x. settled (kept u l x k) k) (boolean_left n b))
  cut_alike u l n (items ts) k h e = ap (list_settled k) (items_cut_alike u l n ts (held_kind k) h.1) ∙ sym (ap (λ x. settled (kept u l x k) k) (list_left n ts))
  cut_alike u l n (fields m ts) k h e = record_alike u l n k m ts h.0 h.1 e (rows_cut_alike u l n ts (rows m) (firm m) h.1) ∙ sym (ap (λ x. settled (kept u l x k) k) (record_left n m ts))

  items_cut_alike : (u l : SpecVersion) (n : ℕ) (ts : Trees) (k : Kind) → HaveShape ts k → items_settled (items_cut u n l ts k) k ≡ items_settled (items_kept u l (items_left n ts) k) k
  items_cut_alike u l n none k h = sym (ap (λ xs. items_settled (items_kept u l xs k) k) (none_left n))
  items_cut_alike u l n (more t ts) k h =
      item_alike u l n t ts k h.0 (cut_alike u l n t k) (items_cut_alike u l n ts k h.1) (changed_by u k t) (is_skipped n t) refl refl
      ∙ sym (ap (λ xs. items_settled (items_kept u l xs k) k) (more_left n t ts))

  rows_cut_alike : (u l : SpecVersion) (n : ℕ) (ts : Trees) (rs : List Row) → all_firm rs ≡ true → FieldsHaveShape ts rs → AlikeRows u l n ts rs
  rows_cut_alike u l n none rs f h = sym (ap (λ xs. rows_settled (rows_kept u l xs rs) rs) (no_rows_left n rs))
  rows_cut_alike u l n (more t ts) [] f h = absurd (true≢false h)
  rows_cut_alike u l n (more t ts) (r ∷ rs) f h =
      let p : (is_firm r ≡ true) × (all_firm rs ≡ true) = and_true (is_firm r) (all_firm rs) f in
      more_is (field_alike u l n t r p.0 h.0 (cut_alike u l n t r.kind)) (rows_cut_alike u l n ts rs p.1 h.1)
      ∙ sym (ap (λ xs. rows_settled (rows_kept u l xs (r ∷ rs)) (r ∷ rs)) (row_left n t ts r rs))

-- ---- roads

bill_stays : (u : SpecVersion) (t : Tree) → changed_by u a_bill t ≡ None
bill_stays u absent = refl
bill_stays u (text s) = refl
bill_stays u (number m) = refl
bill_stays u (boolean b) = refl
bill_stays u (items ts) = refl
bill_stays u (fields m ts) = plain_reason u a_bill m ts refl

abbrev one_trip : ℕ → Tree → Tree
one_trip zero y = y
one_trip (suc n) y = bare y

abbrev two_trips : ℕ → Tree → Tree
two_trips zero y = y
two_trips (suc zero) y = bare y
two_trips (suc (suc n)) y = bare (bare y)

form_one : (f : Form) (a b : Tree) (m : ℕ) (y : Tree) → a ≡ one_trip m y → b ≡ bare y → (elim f [ in_json ↦ a | in_xml ↦ b ]) ≡ one_trip (elim f [ in_json ↦ m | in_xml ↦ 1 ]) y
form_one in_json a b m y p q = p
form_one in_xml a b m y p q = q

trips_one : (hs : List Hop) (y : Tree) → trips hs 1 y ≡ one_trip (xml_count 1 hs) y
trips_one [] y = refl
trips_one (h ∷ hs) y = form_one h.form (trips hs 1 y) (bare y) (xml_count 1 hs) y (trips_one hs y) refl

one_more : (n : ℕ) (y : Tree) → one_trip n (bare y) ≡ two_trips (suc n) y
one_more zero y = refl
one_more (suc n) y = refl

form_two : (f : Form) (a b : Tree) (m n : ℕ) (y : Tree) → a ≡ two_trips m y → b ≡ two_trips (suc n) y → (elim f [ in_json ↦ a | in_xml ↦ b ]) ≡ two_trips (elim f [ in_json ↦ m | in_xml ↦ suc n ]) y
form_two in_json a b m n y p q = p
form_two in_xml a b m n y p q = q

trips_two : (hs : List Hop) (y : Tree) → trips hs 2 y ≡ two_trips (xml_count 2 hs) y
trips_two [] y = refl
trips_two (h ∷ hs) y = form_two h.form (trips hs 2 y) (trips hs 1 (bare y)) (xml_count 2 hs) (xml_count 1 hs) y (trips_two hs y) (trips_one hs (bare y) ∙ one_more (xml_count 1 hs) y)

trips_left : (u l : SpecVersion) (n : ℕ) (b : Tree) → HasBillShape b → two_trips n (kept u l b a_bill) ≡ kept u l (left n b) a_bill
trips_left u l zero b h = refl
trips_left u l (suc zero) b h = bare_kept u l b a_bill h
trips_left u l (suc (suc n)) b h = ap bare (bare_kept u l b a_bill h) ∙ (bare_kept u l (bare b) a_bill (bare_of AnyText b a_bill h) ∙ ap (λ x. kept u l x a_bill) (bare_twice b a_bill h))

pub strikes_roads : StrikesRoads
strikes_roads b h hs shape =
    let u : SpecVersion = lowest_of h.version hs in
    let l : SpecVersion = last_of h.version hs in
    let n : ℕ = xml_count 2 (h ∷ hs) in
    ap (λ x. settled x a_bill) (own_struck u n l b a_bill shape)
    ∙ (cut_alike u l n b a_bill shape (bill_stays u b)
    ∙ sym (ap (λ x. settled x a_bill) (trips_two (h ∷ hs) (kept u l b a_bill) ∙ trips_left u l n b shape)))
