-- What a version keeps of a bill that fits it, the version holds; so it is read back.
use Rattle.std.specs.Prelude.{◌≡◌, refl, ℕ, ◌^◌, List, [], ◌∷◌, Bool, true, false, not, ◌&&◌, if◌then◌else◌, ◌⊎◌, Ok}
use Rattle.std.proofs.Common.{true≢false, inl, inr}
use mathlib.Core.Path.{ap, sym, ◌∙◌, subst}
use Rattle.cdx_models.specs.declared.bom.SpecVersion.{SpecVersion}
use Rattle.cdx_models.specs.declared.bom.SpecVersion.TheVariants.{V1_3, V1_4, V1_5}
use Rattle.cdx_models.specs.Versions.{knows, is_label, is_first, label}
use Rattle.cdx_models.specs.Trees.{Name, classification, service_data, tools_object, Tree, absent, text, number, boolean, items, fields, Trees, none, more, is_absent, field}
use Rattle.cdx_schema.specs.Kinds.{Kind, a_text, a_number, a_version, a_record, a_reference, a_license_choice, a_license_identifier, a_tools, an_entry, a_signature, a_bill, Need, optional, required, required_first, else_empty, Row}
use Rattle.cdx_schema.specs.Table.{rows, class_row}
use Rattle.cdx_schema.specs.Held.{held_kind}
use Rattle.cdx_models.specs.Entries.{is_flow}
use Rattle.cdx_schema.specs.Depth.{Depth, inside, name_too_deep}
use Rattle.cdx_schema.specs.JsonReading.{jread, when_nothing}
use Rattle.cdx_schema.specs.JsonSpelling.{jspell, is_written}
use Rattle.cdx_schema.specs.Keeping.{kept, items_kept, rows_kept, kept_text, kept_record, before_1_5, keep, fits, has_versions, items_have_versions, rows_have_versions, is_there, is_shallow, are_shallow}
use Rattle.cdx_schema.specs.Membership.{HasShape, HaveShape, FieldsHaveShape, IsTextOf, AnyText, IsNumberOf, IsRecordOf, may_lack}
use Rattle.cdx_schema.proofs.KeptTwice.{stays}
use Rattle.cdx_schema.proofs.JsonBack.{required_held, IsNumberHeld, Held, AllHeld, FieldsHeld, RowHeld, json_back, and_true, not_true}
use Rattle.cdx_schema.proofs.Basics.{lt_true}

pub label_is : (v : SpecVersion) → is_label (label v) ≡ true
label_is V1_3 = refl
label_is V1_4 = refl
label_is V1_5 = refl

pub text_held : (w l : SpecVersion) (d : Depth) (k : Kind) (s : List ℕ) → IsTextOf AnyText k s → Held w d (kept_text l k s) k
text_held w l d a_text s h = tt
text_held w l d a_reference s h = tt
text_held w l d a_version s h = label_is l
text_held w l d _ s h = absurd (true≢false h)

pub number_held : (k : Kind) (n : ℕ) → IsNumberOf k n → IsNumberHeld k n
number_held a_number n h = lt_true n (2 ^ 32) h
number_held _ n h = absurd (true≢false h)

pub held_there : (w : SpecVersion) (d : Depth) (x : Tree) (k : Kind) → Held w d x k → is_absent x ≡ false
held_there w d absent k h = absurd (true≢false h)
held_there w d _ k h = refl

-- What is there is written, or is an empty list that stands for nothing.
pub written : (n : Need) (x : Tree) → is_absent x ≡ false → (is_written n x ≡ true) ⊎ ((n ≡ else_empty) × (x ≡ items none))
written else_empty (items none) h = inr (refl, refl)
written _ x h = inl (ap not h)

pub present_row : (w : SpecVersion) (d : Depth) (u : Tree) (r : Row) → knows r.since w ≡ true → Held w d u r.kind → RowHeld w d u r
present_row w d u r known h = by (written r.need u (held_there w d u r.kind h))
  where
    by : (is_written r.need u ≡ true) ⊎ ((r.need ≡ else_empty) × (u ≡ items none)) → RowHeld w d u r
    by (inl e) = inr (inr (known, e, h))
    by (inr e) = inr (inl (known, rw (e.0, e.1) refl, rw (e.0, e.1) refl))

-- A field that may be absent, and is.
pub absent_row : (w : SpecVersion) (d : Depth) (r : Row) → knows r.since w ≡ true → may_lack r.need ≡ true → (is_first w ≡ true → is_there r.need absent ≡ true) → RowHeld w d absent r
absent_row w d r known lack there = inr (inl (known, by r.need, what r.need lack there))
  where
    by : (n : Need) → is_written n absent ≡ false
    by optional = refl
    by _ = refl

    what : (n : Need) → may_lack n ≡ true → (is_first w ≡ true → is_there n absent ≡ true) → when_nothing n w ≡ Ok absent
    what optional e f = refl
    what required e f = absurd (true≢false (sym e))
    what else_empty e f = absurd (true≢false (sym e))
    what required_first e f = at (is_first w) f
      where
        at : (b : Bool) → (b ≡ true → false ≡ true) → (if b then Rattle.cdx_schema.specs.Faults.here Rattle.cdx_schema.specs.Faults.missing else Ok absent) ≡ Ok absent
        at true g = absurd (true≢false (sym (g refl)))
        at false g = refl

-- ---- records

pub absent_stays : (w l : SpecVersion) (t : Tree) → is_absent (kept w l t a_text) ≡ is_absent t
unfolding kept
absent_stays w l (fields n ts) = ap is_absent (stays w a_text n (rows_kept w l ts (rows n)) refl)
absent_stays w l _ = refl

pub flow_stays : (w l : SpecVersion) (ts : Trees) → is_flow service_data (rows_kept w l ts (rows service_data)) ≡ is_flow service_data ts
unfolding kept rows
flow_stays w l none = refl
flow_stays w l (more a none) = ap (λ x. not (x && true)) (absent_stays w l a)
flow_stays w l (more a (more b ts)) = rw (absent_stays w l a, absent_stays w l b) refl

pub class_is_entry : (w : SpecVersion) (d : Depth) (t : Tree) → Held w d t (a_record classification) → Held w d t an_entry
class_is_entry w d (items ts) h = absurd (true≢false h.0)
class_is_entry w d (fields n ts) h = (inl h.0, h.1, h.2)
class_is_entry w d _ h = h

pub third_held : (w : SpecVersion) (d : Depth) (ts : Trees) → FieldsHeld w d ts (rows service_data) → Held w d (field 2 ts) (a_record classification)
unfolding rows
third_held w d none h = absurd (true≢false h)
third_held w d (more a none) h = absurd (true≢false h.1)
third_held w d (more a (more b none)) h = absurd (true≢false h.1.1)
third_held w d (more a (more b (more c ts))) h = required_held w d c class_row refl refl h.1.1.0

abbrev pub Rows : SpecVersion → SpecVersion → Depth → Name → Trees → Type 0
Rows w l d n ts = FieldsHeld w (inside n d) (rows_kept w l ts (rows n)) (rows n)

pub flow_held : (w l : SpecVersion) (d : Depth) (ts : Trees) → is_flow service_data ts ≡ true → Rows w l d service_data ts
    → Held w d (kept_record w an_entry service_data (rows_kept w l ts (rows service_data))) an_entry
flow_held V1_3 l d ts f h = class_is_entry V1_3 d _ (third_held V1_3 d (rows_kept V1_3 l ts (rows service_data)) h)
flow_held V1_4 l d ts f h = class_is_entry V1_4 d _ (third_held V1_4 d (rows_kept V1_4 l ts (rows service_data)) h)
flow_held V1_5 l d ts f h = (inr (refl, flow_stays V1_5 l ts ∙ f, refl), refl, h)

pub tools_held : (w l : SpecVersion) (d : Depth) (ts : Trees) → (is_first w ≡ false → Rows w l d tools_object ts)
    → Held w d (kept_record w a_tools tools_object (rows_kept w l ts (rows tools_object))) a_tools
tools_held V1_3 l d ts h = (tt, tt)
tools_held V1_4 l d ts h = (tt, tt)
tools_held V1_5 l d ts h = ((refl, refl), refl, h refl)

pub plain_held : (w l : SpecVersion) (d : Depth) (k : Kind) (n : Name) (ts : Trees) → before_1_5 k n (rows_kept w l ts (rows n)) ≡ fields n (rows_kept w l ts (rows n))
    → Held w d (fields n (rows_kept w l ts (rows n))) k → Held w d (kept_record w k n (rows_kept w l ts (rows n))) k
plain_held w l d k n ts e h = subst (λ (t : Tree). Held w d t k) (sym (stays w k n (rows_kept w l ts (rows n)) e)) h

pub record_held : (w l : SpecVersion) (d : Depth) (k : Kind) (n : Name) (ts : Trees) → IsRecordOf k n ts → name_too_deep n d ≡ false
    → (is_first w ≡ true → has_versions (fields n ts) k ≡ true)
    → ((is_first w ≡ true → rows_have_versions ts (rows n) ≡ true) → Rows w l d n ts)
    → Held w d (kept_record w k n (rows_kept w l ts (rows n))) k
unfolding has_versions
record_held w l d (a_record m) n ts is deep v h = plain_held w l d (a_record m) n ts refl (is, deep, h v)
record_held w l d a_license_choice n ts is deep v h = plain_held w l d a_license_choice n ts refl (is, deep, h v)
record_held w l d a_license_identifier n ts is deep v h = plain_held w l d a_license_identifier n ts refl (is, deep, h v)
record_held w l d a_tools n ts is deep v h =
    subst (λ (m : Name). ((is_first w ≡ true → rows_have_versions ts (rows m) ≡ true) → Rows w l d m ts) → Held w d (kept_record w a_tools m (rows_kept w l ts (rows m))) a_tools) (sym is)
    (λ g. tools_held w l d ts (λ e. g (λ f. absurd (true≢false (sym f ∙ e))))) h
record_held w l d an_entry n ts (inl is) deep v h = plain_held w l d an_entry n ts (subst (λ (m : Name). before_1_5 an_entry m (rows_kept w l ts (rows n)) ≡ fields m (rows_kept w l ts (rows n))) (sym is) refl) (inl is, deep, h v)
record_held w l d an_entry n ts (inr is) deep v h =
    subst (λ (m : Name). is_flow m ts ≡ true → Rows w l d m ts → Held w d (kept_record w an_entry m (rows_kept w l ts (rows m))) an_entry) (sym is.0) (flow_held w l d ts) is.1 (h v)
record_held w l d a_signature n ts is deep v h = plain_held w l d a_signature n ts refl (is, deep, h v)
record_held w l d a_bill n ts is deep v h = plain_held w l d a_bill n ts refl (is, deep, h v)
record_held w l d _ n ts is deep v h = absurd (true≢false is)

pub first_row : (w l : SpecVersion) (d : Depth) (t : Tree) (r : Row) (b : Bool) → knows r.since w ≡ b
    → ((t ≡ absent) × (may_lack r.need ≡ true)) ⊎ Held w d (kept w l t r.kind) r.kind → (is_first w ≡ true → is_there r.need t ≡ true)
    → RowHeld w d (if b then kept w l t r.kind else absent) r
unfolding kept
first_row w l d t r false known h there = inl (known, refl)
first_row w l d t r true known (inl h) there = subst (λ (x : Tree). (is_first w ≡ true → is_there r.need x ≡ true) → RowHeld w d (kept w l x r.kind) r) (sym h.0) (absent_row w d r known h.1) there
first_row w l d t r true known (inr h) there = present_row w d (kept w l t r.kind) r known h

pub kept_field : (w l : SpecVersion) (d : Depth) (t : Tree) (r : Row) → (HasShape t r.kind → Held w d (kept w l t r.kind) r.kind)
    → ((t ≡ absent) × (may_lack r.need ≡ true)) ⊎ HasShape t r.kind → ((t ≡ absent) × (may_lack r.need ≡ true)) ⊎ Held w d (kept w l t r.kind) r.kind
kept_field w l d t r f (inl h) = inl h
kept_field w l d t r f (inr h) = inr (f h)

mutual
  unfolding kept has_versions is_shallow

  pub held_kept : (w l : SpecVersion) (d : Depth) (t : Tree) (k : Kind) → HasShape t k → (is_first w ≡ true → has_versions t k ≡ true) → is_shallow t d ≡ true → Held w d (kept w l t k) k
  held_kept w l d absent k h v s = absurd (true≢false h)
  held_kept w l d (text x) k h v s = text_held w l d k x h
  held_kept w l d (number n) k h v s = number_held k n h
  held_kept w l d (boolean b) k h v s = h
  held_kept w l d (items ts) k h v s = (h.0, items_held w l d ts (held_kind k) h.1 v s)
  held_kept w l d (fields n ts) k h v s =
      let p : (not (name_too_deep n d) ≡ true) × (are_shallow ts (inside n d) ≡ true) = and_true (not (name_too_deep n d)) (are_shallow ts (inside n d)) s in
      record_held w l d k n ts h.0 (not_true (name_too_deep n d) p.0) v (λ u. rows_held w l (inside n d) ts (rows n) h.1 u p.1)

  pub items_held : (w l : SpecVersion) (d : Depth) (ts : Trees) (k : Kind) → HaveShape ts k → (is_first w ≡ true → items_have_versions ts k ≡ true) → are_shallow ts d ≡ true → AllHeld w d (items_kept w l ts k) k
  items_held w l d none k h v s = tt
  items_held w l d (more t ts) k h v s =
      let p : (is_shallow t d ≡ true) × (are_shallow ts d ≡ true) = and_true (is_shallow t d) (are_shallow ts d) s in (
        held_kept w l d t k h.0 (λ e. (and_true (has_versions t k) (items_have_versions ts k) (v e)).0) p.0,
        items_held w l d ts k h.1 (λ e. (and_true (has_versions t k) (items_have_versions ts k) (v e)).1) p.1,
      )

  pub rows_held : (w l : SpecVersion) (d : Depth) (ts : Trees) (rs : List Row) → FieldsHaveShape ts rs → (is_first w ≡ true → rows_have_versions ts rs ≡ true) → are_shallow ts d ≡ true → FieldsHeld w d (rows_kept w l ts rs) rs
  rows_held w l d none [] h v s = tt
  rows_held w l d none (r ∷ rs) h v s = h
  rows_held w l d (more t ts) [] h v s = absurd (true≢false h)
  rows_held w l d (more t ts) (r ∷ rs) h v s =
      let p : (is_shallow t d ≡ true) × (are_shallow ts d ≡ true) = and_true (is_shallow t d) (are_shallow ts d) s in
      let q : (is_first w ≡ true → ((is_there r.need t && has_versions t r.kind) ≡ true) × (rows_have_versions ts rs ≡ true)) = (λ e. and_true (is_there r.need t && has_versions t r.kind) (rows_have_versions ts rs) (v e)) in
      let o : (is_first w ≡ true → (is_there r.need t ≡ true) × (has_versions t r.kind ≡ true)) = (λ e. and_true (is_there r.need t) (has_versions t r.kind) (q e).0) in (
        first_row w l d t r (knows r.since w) refl (kept_field w l d t r (λ g. held_kept w l d t r.kind g (λ e. (o e).1) p.0) h.0) (λ e. (o e).0),
        rows_held w l d ts rs h.1 (λ e. (q e).1) p.1,
      )

-- ---- the law

pub fits_first : (w : SpecVersion) (t : Tree) (k : Kind) → fits w t k ≡ true → is_first w ≡ true → has_versions t k ≡ true
fits_first V1_3 t k h e = h
fits_first V1_4 t k h e = absurd (true≢false (sym e))
fits_first V1_5 t k h e = absurd (true≢false (sym e))

-- The JSON spelling of what a version keeps is read back as what the version keeps.
pub json_law : (w : SpecVersion) (d : Depth) (t : Tree) (k : Kind) → HasShape t k → fits w t k ≡ true → is_shallow t d ≡ true
    → jread (jspell (keep w t k) w k) w k d ≡ Ok (keep w t k)
json_law w d t k h f s = (json_back w d (keep w t k) k (held_kept w w d t k h (fits_first w t k f) s)).1
