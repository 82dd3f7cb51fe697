-- The JSON members of a record's rows, and rows of which nothing is taken.
use Rattle.std.specs.Prelude.{◌≡◌, refl, ℕ, zero, suc, List, [], ◌∷◌, Bool, true, false, not, ◌&&◌, ◌||◌, Option, None, ◌⊎◌}
use Rattle.std.proofs.Common.{true≢false, inl, inr}
use mathlib.Core.Path.{ap, sym, ◌∙◌}
use Rattle.cdx_models.specs.declared.errors.Step.{Step}
use Rattle.cdx_models.specs.declared.bom.SpecVersion.{SpecVersion}
use Rattle.cdx_models.specs.declared.bom.SpecVersion.TheVariants.{V1_3, V1_4, V1_5}
use Rattle.cdx_models.specs.Versions.{knows, is_first}
use Rattle.cdx_models.specs.Trees.{Name, hash, license, spdx_id, license_name, Tree, absent, text, number, boolean, items, fields, Trees, none, more, is_absent}
use Rattle.cdx_schema.specs.Kinds.{Kind, a_text, a_record, a_license_choice, a_license_identifier, Spelled, attribute, attribute_or, content, one_text, as_cdata, child, filled_child, children, either_child, the_version, Row}
use Rattle.cdx_schema.specs.Kinds as kinds
use Rattle.cdx_schema.specs.Table.{rows}
use Rattle.cdx_schema.specs.Faults.{to_member}
use Rattle.cdx_schema.specs.JsonReading.{or_else}
use Rattle.cdx_schema.specs.Membership.{HasShape, FieldsHaveShape, may_lack}
use Rattle.cdx_schema.specs.Trips.{bare, field_after}
use Rattle.cdx_schema.specs.Suppliers.{is_supplier}
use Rattle.cdx_schema.proofs.JsonBack.{and_true, not_true}
use Rattle.cdx_schema.proofs.KeptOf.{IsField}
use Rattle.cdx_schema.proofs.Literals.{reading_on_literals}
use Rattle.cdx_ways.specs.Ways.{At, behind_row, behind_choice, is_step}
use Rattle.cdx_ways.proofs.Lists.{step_is, Disjoint}
use Rattle.cdx_losses.specs.declared.loss.Reason.{Reason}
use Rattle.cdx_losses.specs.declared.loss.Reason.TheVariants.{Version, Xml}
use Rattle.cdx_losses.specs.Losses.{reason_in, changed_by, is_tripped, if_so, field_reason, entry_or, lost, rows_lost}

-- ---- members

-- The step is to a member of rows of which none is merged.
abbrev pub is_plain : List Row → Step → Bool
is_plain [] s = false
is_plain (r ∷ rs) s = by r.json || is_plain rs s
  where
    by : kinds.Member → Bool
    by (kinds.member name) = is_step (to_member name) s
    by kinds.merged = false

-- The step is to a member of the record that is merged.
abbrev pub is_inner : Kind → Step → Bool
is_inner a_license_identifier s = is_plain (rows spdx_id) s || is_plain (rows license_name) s
is_inner (a_record n) s = is_plain (rows n) s
is_inner _ s = false

abbrev pub is_own : Kind → kinds.Member → Step → Bool
is_own k (kinds.member name) s = is_step (to_member name) s
is_own k kinds.merged s = is_inner k s

-- The step is to a member in which the rows stand.
abbrev pub is_known : List Row → Step → Bool
is_known [] s = false
is_known (r ∷ rs) s = is_own r.kind r.json s || is_known rs s

-- None of the plain rows' members is among the others.
abbrev pub plain_new : List Row → List Row → Bool
plain_new [] rs = true
plain_new (q ∷ qs) rs = by q.json && plain_new qs rs
  where
    by : kinds.Member → Bool
    by (kinds.member name) = not (is_known rs (to_member name))
    by kinds.merged = false

abbrev pub inner_new : Kind → List Row → Bool
inner_new a_license_identifier rs = plain_new (rows spdx_id) rs && plain_new (rows license_name) rs
inner_new (a_record n) rs = plain_new (rows n) rs
inner_new _ rs = false

abbrev pub is_new : Kind → kinds.Member → List Row → Bool
is_new k (kinds.member name) rs = not (is_known rs (to_member name))
is_new k kinds.merged rs = inner_new k rs

-- Each member belongs to one row.
abbrev pub members_differ : List Row → Bool
members_differ [] = true
members_differ (r ∷ rs) = is_new r.kind r.json rs && members_differ rs

pub differ : (n : Name) → members_differ (rows n) ≡ true
unfolding rows reading_on_literals
differ hash = refl
differ _ = refl

abbrev pub IsKnown : List Row → Step → Type 0
IsKnown rs s = is_known rs s ≡ true

abbrev pub IsOwn : Row → Step → Type 0
IsOwn r s = is_own r.kind r.json s ≡ true

or_true : (a b : Bool) → (a || b) ≡ true → (a ≡ true) ⊎ (b ≡ true)
or_true true b h = inl refl
or_true false b h = inr h

pub known_own : (r : Row) (rs : List Row) (s : Step) → IsOwn r s → IsKnown (r ∷ rs) s
known_own r rs s h = ap (λ b. b || is_known rs s) h

pub known_more : (r : Row) (rs : List Row) (s : Step) → IsKnown rs s → IsKnown (r ∷ rs) s
known_more r rs s h = by (is_own r.kind r.json s)
  where
    by : (b : Bool) → (b || is_known rs s) ≡ true
    by true = refl
    by false = h

-- What is not among the rows isn't a step to them.
unknown : (rs : List Row) (s s' : Step) → s ≡ s' → not (is_known rs s) ≡ true → IsKnown rs s' → ⊥
unknown rs s s' e h g = true≢false (sym g ∙ (ap (is_known rs) (sym e) ∙ not_true (is_known rs s) h))

plain_step : (m : kinds.Member) (q : Row) (qs rs : List Row) (s : Step) → plain_new (record q { json = m } ∷ qs) rs ≡ true → is_plain (record q { json = m } ∷ qs) s ≡ true → IsKnown rs s
    → (plain_new qs rs ≡ true → is_plain qs s ≡ true → ⊥) → ⊥
plain_step (kinds.member name) q qs rs s h p g f =
    let n : (not (is_known rs (to_member name)) ≡ true) × (plain_new qs rs ≡ true) = and_true (not (is_known rs (to_member name))) (plain_new qs rs) h in
    elim (or_true (is_step (to_member name) s) (is_plain qs s) p) [
      | inl e ↦ unknown rs (to_member name) s (step_is (to_member name) s e) n.0 g
      | inr e ↦ f n.1 e
    ]
plain_step kinds.merged q qs rs s h p g f = absurd (true≢false (sym h))

plain_unknown : (qs rs : List Row) (s : Step) → plain_new qs rs ≡ true → is_plain qs s ≡ true → IsKnown rs s → ⊥
plain_unknown [] rs s h p g = true≢false (sym p)
plain_unknown (q ∷ qs) rs s h p g = plain_step q.json q qs rs s h p g (λ a b. plain_unknown qs rs s a b g)

pub inner_unknown : (k : Kind) (rs : List Row) (s : Step) → inner_new k rs ≡ true → is_inner k s ≡ true → IsKnown rs s → ⊥
inner_unknown a_license_identifier rs s h p g =
    let n : (plain_new (rows spdx_id) rs ≡ true) × (plain_new (rows license_name) rs ≡ true) = and_true (plain_new (rows spdx_id) rs) (plain_new (rows license_name) rs) h in
    elim (or_true (is_plain (rows spdx_id) s) (is_plain (rows license_name) s) p) [
      | inl e ↦ plain_unknown (rows spdx_id) rs s n.0 e g
      | inr e ↦ plain_unknown (rows license_name) rs s n.1 e g
    ]
inner_unknown (a_record n) rs s h p g = plain_unknown (rows n) rs s h p g
inner_unknown _ rs s h p g = true≢false (sym p)

-- A row's members are not among those of the rows behind it.
pub own_new : (r : Row) (rs : List Row) → members_differ (r ∷ rs) ≡ true → Disjoint (IsOwn r) (IsKnown rs)
own_new r rs h s p g = by r.json (and_true (is_new r.kind r.json rs) (members_differ rs) h).0 p
  where
    by : (m : kinds.Member) → is_new r.kind m rs ≡ true → is_own r.kind m s ≡ true → ⊥
    by (kinds.member name) n e = unknown rs (to_member name) s (step_is (to_member name) s e) n g
    by kinds.merged n e = inner_unknown r.kind rs s n e g

pub differ_rest : (r : Row) (rs : List Row) → members_differ (r ∷ rs) ≡ true → members_differ rs ≡ true
differ_rest r rs h = (and_true (is_new r.kind r.json rs) (members_differ rs) h).1

-- ---- fields that are never taken

-- A trip looks into the row's field and doesn't take it.
abbrev pub is_steady : Spelled → Bool
is_steady (filled_child q) = false
is_steady (children q) = false
is_steady _ = true

pub steady_after : (r : Row) (t u : Tree) → is_steady r.xml ≡ true → field_after r t u ≡ u
steady_after r t u h = by r.xml h
  where
    by : (x : Spelled) → is_steady x ≡ true → field_after (record r { xml = x }) t u ≡ u
    by (filled_child q) e = absurd (true≢false (sym e))
    by (children q) e = absurd (true≢false (sym e))
    by (attribute q) e = refl
    by (attribute_or q m) e = refl
    by content e = refl
    by one_text e = refl
    by as_cdata e = refl
    by (child q) e = refl
    by (either_child q m) e = refl
    by the_version e = refl

steady_supplier : (x : Spelled) (k : Kind) → is_steady x ≡ true → is_supplier x k ≡ false
steady_supplier (filled_child q) k e = absurd (true≢false (sym e))
steady_supplier _ k e = refl

pub bare_there : (t : Tree) → is_absent (bare t) ≡ is_absent t
unfolding bare
bare_there absent = refl
bare_there (text s) = refl
bare_there (number s) = refl
bare_there (boolean s) = refl
bare_there (items ts) = refl
bare_there (fields n ts) = refl

untripped : (n : ℕ) (r : Row) (t : Tree) → is_steady r.xml ≡ true → is_absent t ≡ false → is_tripped n r t ≡ false
untripped zero r t s h = refl
untripped (suc zero) r t s h = ap is_absent (steady_after r t (bare t) s) ∙ (bare_there t ∙ h)
untripped (suc (suc n)) r t s h = rw (steady_supplier r.xml r.kind s) (by (is_absent (field_after r t (bare t))) (ap is_absent (steady_after r t (bare t) s) ∙ (bare_there t ∙ h)))
  where
    by : (b : Bool) → b ≡ false → (b || false) ≡ false
    by true e = e
    by false e = e

pub first_known : (v w : SpecVersion) → is_first v ≡ true → knows v w ≡ true
first_known V1_3 w h = refl
first_known _ w h = absurd (true≢false (sym h))

no_reason : (u : SpecVersion) (n : ℕ) (r : Row) (t : Tree) → is_first r.since ≡ true → is_steady r.xml ≡ true → changed_by u r.kind t ≡ None → is_absent t ≡ false
    → or_else (if_so (not (knows r.since u)) Version) (or_else (changed_by u r.kind t) (if_so (is_tripped n r t) Xml)) ≡ None
no_reason u n r t f s c h = rw (first_known r.since u f, c, untripped n r t s h) refl

-- A field that each version knows, that no version changes and that no trip takes is never taken.
pub never_taken : (u : SpecVersion) (n : ℕ) (r : Row) (t : Tree) → is_first r.since ≡ true → is_steady r.xml ≡ true → changed_by u r.kind t ≡ None → field_reason u n r t ≡ None
never_taken u n r absent f s c = refl
never_taken u n r (text x) f s c = no_reason u n r (text x) f s c refl
never_taken u n r (number x) f s c = no_reason u n r (number x) f s c refl
never_taken u n r (boolean x) f s c = no_reason u n r (boolean x) f s c refl
never_taken u n r (items ts) f s c = no_reason u n r (items ts) f s c refl
never_taken u n r (fields m ts) f s c = no_reason u n r (fields m ts) f s c refl

-- ---- quiet rows: texts of which nothing is taken

abbrev pub is_text_kind : Kind → Bool
is_text_kind a_text = true
is_text_kind _ = false

abbrev pub is_member : kinds.Member → Bool
is_member (kinds.member name) = true
is_member kinds.merged = false

abbrev pub is_quiet : Row → Bool
is_quiet r = ((is_first r.since && is_steady r.xml) && is_text_kind r.kind) && is_member r.json

abbrev pub all_quiet : List Row → Bool
all_quiet [] = true
all_quiet (r ∷ rs) = is_quiet r && all_quiet rs

text_whole : (u : SpecVersion) (n : ℕ) (t : Tree) (k : Kind) → is_text_kind k ≡ true → HasShape t k → (changed_by u k t ≡ None) × (lost u n t k ≡ [])
unfolding lost
text_whole u n (text s) k e h = (refl, refl)
text_whole u n absent k e h = absurd (true≢false h)
text_whole u n (number m) a_text e h = absurd (true≢false h)
text_whole u n (boolean b) a_text e h = absurd (true≢false h)
text_whole u n (items ts) a_text e h = absurd (true≢false h.0)
text_whole u n (fields m ts) a_text e h = absurd (true≢false h.0)
text_whole u n _ _ e h = absurd (true≢false (sym e))

row_nothing : (m : kinds.Member) (o : Option Reason) (xs : List (At Reason)) → o ≡ None → xs ≡ [] → behind_row m (entry_or o xs) ≡ []
row_nothing (kinds.member name) o xs e f = rw (e, f) refl
row_nothing kinds.merged o xs e f = rw (e, f) refl

pub quiet_row : (u : SpecVersion) (n : ℕ) (r : Row) (t : Tree) → is_quiet r ≡ true → IsField t r → behind_row r.json (entry_or (field_reason u n r t) (lost u n t r.kind)) ≡ []
unfolding lost
quiet_row u n r t q (inl h) = row_nothing r.json (field_reason u n r t) (lost u n t r.kind) (ap (λ x. field_reason u n r x) h.0) (ap (λ x. lost u n x r.kind) h.0)
quiet_row u n r t q (inr h) =
    let m : (((is_first r.since && is_steady r.xml) && is_text_kind r.kind) ≡ true) × (is_member r.json ≡ true) = and_true ((is_first r.since && is_steady r.xml) && is_text_kind r.kind) (is_member r.json) q in
    let a : ((is_first r.since && is_steady r.xml) ≡ true) × (is_text_kind r.kind ≡ true) = and_true (is_first r.since && is_steady r.xml) (is_text_kind r.kind) m.0 in
    let b : (is_first r.since ≡ true) × (is_steady r.xml ≡ true) = and_true (is_first r.since) (is_steady r.xml) a.0 in
    let w : (changed_by u r.kind t ≡ None) × (lost u n t r.kind ≡ []) = text_whole u n t r.kind a.1 h in
    row_nothing r.json (field_reason u n r t) (lost u n t r.kind) (never_taken u n r t b.0 b.1 w.0) w.1

pub quiet_rows : (u : SpecVersion) (n : ℕ) (ts : Trees) (rs : List Row) → all_quiet rs ≡ true → FieldsHaveShape ts rs → rows_lost u n ts rs ≡ []
unfolding lost
quiet_rows u n none rs q h = refl
quiet_rows u n (more t ts) [] q h = refl
quiet_rows u n (more t ts) (r ∷ rs) q h =
    let a : (is_quiet r ≡ true) × (all_quiet rs ≡ true) = and_true (is_quiet r) (all_quiet rs) q in
    rw (quiet_row u n r t a.0 h.0) (quiet_rows u n ts rs a.1 h.1)

-- ---- merged rows

abbrev pub is_quiet_kind : Kind → Bool
is_quiet_kind a_license_identifier = all_quiet (rows spdx_id) && all_quiet (rows license_name)
is_quiet_kind (a_record n) = all_quiet (rows n)
is_quiet_kind _ = false

abbrev pub is_sound : Row → kinds.Member → Bool
is_sound r (kinds.member name) = true
is_sound r kinds.merged = ((is_first r.since && is_steady r.xml) && not (may_lack r.need)) && is_quiet_kind r.kind

abbrev pub all_merged_sound : List Row → Bool
all_merged_sound [] = true
all_merged_sound (r ∷ rs) = is_sound r r.json && all_merged_sound rs

pub merged_sound : (n : Name) → all_merged_sound (rows n) ≡ true
unfolding rows
merged_sound hash = refl
merged_sound _ = refl

choice_none : {A : Type 0} (k : Kind) (m : Name) → behind_choice {A = A} k m [] ≡ []
choice_none a_license_choice license = refl
choice_none _ m = refl

choice_nothing : {A : Type 0} (k : Kind) (m : Name) (xs : List (At A)) → xs ≡ [] → behind_choice k m xs ≡ []
choice_nothing k m xs e = ap (behind_choice k m) e ∙ choice_none k m

plain_change : (u : SpecVersion) (k : Kind) (m : Name) (ts : Trees) → is_quiet_kind k ≡ true → reason_in u k m ts ≡ None
plain_change V1_3 a_license_identifier m ts q = refl
plain_change V1_3 (a_record n) m ts q = refl
plain_change V1_3 _ m ts q = absurd (true≢false (sym q))
plain_change V1_4 a_license_identifier m ts q = refl
plain_change V1_4 (a_record n) m ts q = refl
plain_change V1_4 _ m ts q = absurd (true≢false (sym q))
plain_change V1_5 k m ts q = refl

-- The rows of a record of a quiet kind are quiet.
pub quiet_record : (k : Kind) (m : Name) (ts : Trees) → is_quiet_kind k ≡ true → HasShape (fields m ts) k → all_quiet (rows m) ≡ true
quiet_record a_license_identifier m ts q h =
    let a : (all_quiet (rows spdx_id) ≡ true) × (all_quiet (rows license_name) ≡ true) = and_true (all_quiet (rows spdx_id)) (all_quiet (rows license_name)) q in
    elim h.0 [ inl e ↦ ap (λ n. all_quiet (rows n)) e ∙ a.0 | inr e ↦ ap (λ n. all_quiet (rows n)) e ∙ a.1 ]
quiet_record (a_record n) m ts q h = ap (λ n. all_quiet (rows n)) h.0 ∙ q
quiet_record _ m ts q h = absurd (true≢false (sym q))

quiet_whole : (u : SpecVersion) (n : ℕ) (t : Tree) (k : Kind) → is_quiet_kind k ≡ true → HasShape t k → (changed_by u k t ≡ None) × (lost u n t k ≡ [])
unfolding lost
quiet_whole u n (fields m ts) k q h = (plain_change u k m ts q, choice_nothing k m (rows_lost u n ts (rows m)) (quiet_rows u n ts (rows m) (quiet_record k m ts q h) h.1))
quiet_whole u n absent k q h = (refl, refl)
quiet_whole u n (text s) k q h = (refl, refl)
quiet_whole u n (number s) k q h = (refl, refl)
quiet_whole u n (boolean s) k q h = (refl, refl)
quiet_whole u n (items ts) a_license_identifier q h = absurd (true≢false h.0)
quiet_whole u n (items ts) (a_record m) q h = absurd (true≢false h.0)
quiet_whole u n (items ts) _ q h = absurd (true≢false (sym q))

field_of : (t : Tree) (r : Row) → not (may_lack r.need) ≡ true → IsField t r → HasShape t r.kind
field_of t r h (inl e) = absurd (true≢false (sym e.1 ∙ not_true (may_lack r.need) h))
field_of t r h (inr e) = e

-- Nothing is taken of the field of a merged row.
pub merged_whole : (u : SpecVersion) (n : ℕ) (r : Row) (t : Tree) → is_sound r kinds.merged ≡ true → IsField t r → (field_reason u n r t ≡ None) × (lost u n t r.kind ≡ []) × HasShape t r.kind
merged_whole u n r t s h =
    let a : (((is_first r.since && is_steady r.xml) && not (may_lack r.need)) ≡ true) × (is_quiet_kind r.kind ≡ true) = and_true ((is_first r.since && is_steady r.xml) && not (may_lack r.need)) (is_quiet_kind r.kind) s in
    let b : ((is_first r.since && is_steady r.xml) ≡ true) × (not (may_lack r.need) ≡ true) = and_true (is_first r.since && is_steady r.xml) (not (may_lack r.need)) a.0 in
    let c : (is_first r.since ≡ true) × (is_steady r.xml ≡ true) = and_true (is_first r.since) (is_steady r.xml) b.0 in
    let f : HasShape t r.kind = field_of t r b.1 h in
    let w : (changed_by u r.kind t ≡ None) × (lost u n t r.kind ≡ []) = quiet_whole u n t r.kind a.1 f in
    (never_taken u n r t c.0 c.1 w.0, w.1, f)

-- ---- the members of a quiet record

own_plain : (k : Kind) (m : kinds.Member) (s : Step) → is_member m ≡ true → is_own k m s ≡ true → (r : Row) (rs : List Row) → is_plain (record r { json = m } ∷ rs) s ≡ true
own_plain k (kinds.member name) s e h r rs = ap (λ b. b || is_plain rs s) h
own_plain k kinds.merged s e h r rs = absurd (true≢false (sym e))

more_plain : (m : kinds.Member) (s : Step) (r : Row) (rs : List Row) → is_plain rs s ≡ true → is_plain (record r { json = m } ∷ rs) s ≡ true
more_plain (kinds.member name) s r rs h = by (is_step (to_member name) s)
  where
    by : (b : Bool) → (b || is_plain rs s) ≡ true
    by true = refl
    by false = h
more_plain kinds.merged s r rs h = h

plain_known : (rs : List Row) (s : Step) → all_quiet rs ≡ true → is_known rs s ≡ true → is_plain rs s ≡ true
plain_known [] s q h = h
plain_known (r ∷ rs) s q h =
    let a : (is_quiet r ≡ true) × (all_quiet rs ≡ true) = and_true (is_quiet r) (all_quiet rs) q in
    let m : (is_member r.json ≡ true) = (and_true ((is_first r.since && is_steady r.xml) && is_text_kind r.kind) (is_member r.json) a.0).1 in
    elim (or_true (is_own r.kind r.json s) (is_known rs s) h) [
      | inl e ↦ own_plain r.kind r.json s m e r rs
      | inr e ↦ more_plain r.json s r rs (plain_known rs s a.1 e)
    ]

left_or : (a b : Bool) → a ≡ true → (a || b) ≡ true
left_or a b h = ap (λ x. x || b) h

right_or : (a b : Bool) → b ≡ true → (a || b) ≡ true
right_or true b h = refl
right_or false b h = h

-- The members of a record of a quiet kind are those of the kind.
pub inner_known : (k : Kind) (m : Name) (ts : Trees) (s : Step) → is_quiet_kind k ≡ true → HasShape (fields m ts) k → is_known (rows m) s ≡ true → is_inner k s ≡ true
inner_known a_license_identifier m ts s q h g =
    let p : is_plain (rows m) s ≡ true = plain_known (rows m) s (quiet_record a_license_identifier m ts q h) g in
    elim h.0 [
      | inl e ↦ left_or (is_plain (rows spdx_id) s) (is_plain (rows license_name) s) (ap (λ n. is_plain (rows n) s) (sym e) ∙ p)
      | inr e ↦ right_or (is_plain (rows spdx_id) s) (is_plain (rows license_name) s) (ap (λ n. is_plain (rows n) s) (sym e) ∙ p)
    ]
inner_known (a_record n) m ts s q h g = ap (λ n. is_plain (rows n) s) (sym h.0) ∙ plain_known (rows m) s (quiet_record (a_record n) m ts q h) g
inner_known _ m ts s q h g = absurd (true≢false (sym q))

pub quiet_merged : (r : Row) → is_sound r kinds.merged ≡ true → is_quiet_kind r.kind ≡ true
quiet_merged r s = (and_true ((is_first r.since && is_steady r.xml) && not (may_lack r.need)) (is_quiet_kind r.kind) s).1
