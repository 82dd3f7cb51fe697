-- Trees of which no road takes anything.
use Rattle.std.specs.Prelude.{◌≡◌, refl, ℕ, zero, suc, List, [], ◌∷◌, ◌++◌, Bool, true, false, not, ◌&&◌, ◌||◌, if◌then◌else◌, Option, Some, None}
use Rattle.std.proofs.Common.{true≢false}
use mathlib.Core.Path.{ap, sym, ◌∙◌}
use Rattle.cdx_models.specs.declared.bom.SpecVersion.{SpecVersion}
use Rattle.cdx_models.specs.declared.bom.SpecVersion.TheVariants.{V1_3, V1_4, V1_5}
use Rattle.cdx_models.specs.Versions.{knows, is_first}
use Rattle.cdx_models.specs.Trees.{Name, contact, entity, patch, issue, composition, license, tool, component, pedigree, evidence, service, service_data, tools_object, metadata, bill, Tree, absent, text, number, boolean, items, fields, Trees, none, more, is_absent}
use Rattle.cdx_schema.specs.Kinds.{Lists, contacts, authors, patches, resolved, compositions, licenses, components, services, tool_list, flows, Kind, a_list, a_record, a_license_choice, a_tools, a_data, an_entry, a_bill, Need, optional, required, required_first, else_empty, Spelled, attribute, attribute_or, content, one_text, as_cdata, child, filled_child, children, either_child, the_version, Row}
use Rattle.cdx_schema.specs.Kinds as kinds
use Rattle.cdx_schema.specs.Held.{held_kind}
use Rattle.cdx_schema.specs.Table.{rows}
use Rattle.cdx_schema.specs.Faults.{to_item}
use Rattle.cdx_schema.specs.JsonReading.{or_else}
use Rattle.cdx_schema.specs.Trips.{bare, field_after, none_is_absent, is_passed_over}
use Rattle.cdx_schema.specs.Suppliers.{is_supplier}
use Rattle.cdx_schema.proofs.XmlLaw.{absent_is}
use Rattle.cdx_bom.proofs.Names.{lacks, all_lack, fields_lack}
use Rattle.cdx_ways.specs.Ways.{At, behind_step, behind_row, behind_choice}
use Rattle.cdx_losses.specs.declared.loss.Reason.{Reason}
use Rattle.cdx_losses.specs.declared.loss.Reason.TheVariants.{Version, Xml}
use Rattle.cdx_losses.specs.Losses.{reason_before_1_5, reason_in, changed_by, is_tripped, is_skipped, if_so, field_reason, item_reason, entry_or, lost, items_lost, rows_lost}
use Rattle.cdx_losses.proofs.Members.{bare_there, first_known}
use Rattle.cdx_schema.proofs.JsonBack.{and_true}

-- ---- records and rows

-- the records that a road may take, or of which it may take something
abbrev pub is_losing : Name → Bool
is_losing contact = true
is_losing entity = true
is_losing patch = true
is_losing issue = true
is_losing composition = true
is_losing license = true
is_losing tool = true
is_losing component = true
is_losing pedigree = true
is_losing evidence = true
is_losing service = true
is_losing service_data = true
is_losing tools_object = true
is_losing metadata = true
is_losing bill = true
is_losing _ = false

abbrev is_optional : Need → Bool
is_optional optional = true
is_optional _ = false

-- A trip never takes the row's field.
abbrev pub is_lasting : Spelled → Need → Bool
is_lasting (filled_child q) m = false
is_lasting (children q) m = not (is_optional m)
is_lasting _ m = true

-- Neither a version nor a trip takes it.
abbrev pub is_always : Row → Bool
is_always r = is_first r.since && is_lasting r.xml r.need

abbrev all_always : List Row → Bool
all_always [] = true
all_always (r ∷ rs) = is_always r && all_always rs

always_rows : (m : Name) → is_losing m ≡ false → all_always (rows m) ≡ true
unfolding rows
always_rows entity h = absurd (true≢false h)
always_rows patch h = absurd (true≢false h)
always_rows issue h = absurd (true≢false h)
always_rows composition h = absurd (true≢false h)
always_rows license h = absurd (true≢false h)
always_rows tool h = absurd (true≢false h)
always_rows component h = absurd (true≢false h)
always_rows service h = absurd (true≢false h)
always_rows bill h = absurd (true≢false h)
always_rows _ h = refl

-- ---- reasons

needed_after : (m : Need) (u : Tree) → not (is_optional m) ≡ true → none_is_absent m u ≡ u
needed_after optional u e = absurd (true≢false (sym e))
needed_after required u e = refl
needed_after required_first u e = refl
needed_after else_empty u e = refl

lasting_after : (r : Row) (t u : Tree) → is_lasting r.xml r.need ≡ true → field_after r t u ≡ u
lasting_after r t u h = by r.xml h
  where
    by : (x : Spelled) → is_lasting x r.need ≡ true → field_after (record r { xml = x }) t u ≡ u
    by (filled_child q) e = absurd (true≢false (sym e))
    by (children q) e = needed_after r.need u e
    by (attribute q) e = refl
    by (attribute_or q m) e = refl
    by content e = refl
    by one_text e = refl
    by as_cdata e = refl
    by (child q) e = refl
    by (either_child q m) e = refl
    by the_version e = refl

no_supplier : (x : Spelled) (k : Kind) (m : Need) → is_lasting x m ≡ true → is_supplier x k ≡ false
no_supplier (filled_child q) k m e = absurd (true≢false (sym e))
no_supplier _ k m e = refl

pub or_end : (b : Bool) → (b || false) ≡ b
or_end true = refl
or_end false = refl

pub lasting_stays : (n : ℕ) (r : Row) (t : Tree) → is_lasting r.xml r.need ≡ true → is_absent t ≡ false → is_tripped n r t ≡ false
lasting_stays zero r t s h = refl
lasting_stays (suc zero) r t s h = ap is_absent (lasting_after r t (bare t) s) ∙ (bare_there t ∙ h)
lasting_stays (suc (suc n)) r t s h = rw (no_supplier r.xml r.kind r.need s) (or_end (is_absent (field_after r t (bare t))) ∙ (ap is_absent (lasting_after r t (bare t) s) ∙ (bare_there t ∙ h)))

pub reason_there : (u : SpecVersion) (n : ℕ) (r : Row) (t : Tree) → is_absent t ≡ false → field_reason u n r t ≡ or_else (if_so (not (knows r.since u)) Version) (or_else (changed_by u r.kind t) (if_so (is_tripped n r t) Xml))
reason_there u n r absent h = absurd (true≢false h)
reason_there u n r (text s) h = refl
reason_there u n r (number m) h = refl
reason_there u n r (boolean b) h = refl
reason_there u n r (items ts) h = refl
reason_there u n r (fields m ts) h = refl

pub or_none : (o : Option Reason) → or_else o None ≡ o
or_none None = refl
or_none (Some w) = refl

-- What no version changes and no trip takes is taken where the version doesn't know it.
pub version_reason : (u : SpecVersion) (n : ℕ) (r : Row) (t : Tree) → is_lasting r.xml r.need ≡ true → changed_by u r.kind t ≡ None → is_absent t ≡ false → field_reason u n r t ≡ if_so (not (knows r.since u)) Version
version_reason u n r t s c h =
    let why = if_so (not (knows r.since u)) Version in
    reason_there u n r t h
    ∙ (ap (λ o. or_else why (or_else o (if_so (is_tripped n r t) Xml))) c
    ∙ (ap (λ b. or_else why (if_so b Xml)) (lasting_stays n r t s h)
    ∙ or_none why))

-- What no version changes and no trip takes is taken never, where each version knows it.
pub no_field_reason : (u : SpecVersion) (n : ℕ) (r : Row) (t : Tree) → is_always r ≡ true → changed_by u r.kind t ≡ None → field_reason u n r t ≡ None
no_field_reason u n r t a c = by (is_absent t) refl
  where
    by : (b : Bool) → is_absent t ≡ b → field_reason u n r t ≡ None
    by true e = ap (field_reason u n r) (absent_is t e)
    by false e =
        let p = and_true (is_first r.since) (is_lasting r.xml r.need) a in
        version_reason u n r t p.1 c e ∙ ap (λ b. if_so (not b) Version) (first_known r.since u p.0)

pub not_skipped : (n : ℕ) (t : Tree) → is_passed_over t ≡ false → is_skipped n t ≡ false
not_skipped zero t h = refl
not_skipped (suc n) t h = h

pub no_item_reason : (u : SpecVersion) (n : ℕ) (k : Kind) (t : Tree) → changed_by u k t ≡ None → is_passed_over t ≡ false → item_reason u n k t ≡ None
no_item_reason u n k t c h = ap (λ o. or_else o (if_so (is_skipped n t) Xml)) c ∙ ap (λ b. if_so b Xml) (not_skipped n t h)

-- ---- records that lose nothing

before_changes : (k : Kind) (m : Name) (ts : Trees) → is_losing m ≡ false → reason_before_1_5 k m ts ≡ None
before_changes a_tools tools_object ts h = absurd (true≢false h)
before_changes a_tools _ ts h = refl
before_changes an_entry service_data ts h = absurd (true≢false h)
before_changes an_entry _ ts h = refl
before_changes _ m ts h = refl

spared_changes : (u : SpecVersion) (k : Kind) (m : Name) (ts : Trees) → is_losing m ≡ false → reason_in u k m ts ≡ None
spared_changes V1_3 k m ts h = before_changes k m ts h
spared_changes V1_4 k m ts h = before_changes k m ts h
spared_changes V1_5 k m ts h = refl

pub spared_unchanged : (u : SpecVersion) (k : Kind) (t : Tree) → lacks is_losing t ≡ true → changed_by u k t ≡ None
spared_unchanged u k absent h = refl
spared_unchanged u k (text s) h = refl
spared_unchanged u k (number m) h = refl
spared_unchanged u k (boolean b) h = refl
spared_unchanged u k (items ts) h = refl
spared_unchanged u k (fields m ts) h = spared_changes u k m ts (fields_lack is_losing m ts h).0

record_written : (m : Name) (ts : Trees) → is_losing m ≡ false → is_passed_over (fields m ts) ≡ false
record_written contact ts h = absurd (true≢false h)
record_written _ ts h = refl

pub spared_written : (t : Tree) → lacks is_losing t ≡ true → is_passed_over t ≡ false
spared_written absent h = refl
spared_written (text s) h = refl
spared_written (number m) h = refl
spared_written (boolean b) h = refl
spared_written (items ts) h = refl
spared_written (fields m ts) h = record_written m ts (fields_lack is_losing m ts h).0

pub choice_none : (k : Kind) (m : Name) → behind_choice {A = Reason} k m [] ≡ []
choice_none a_license_choice license = refl
choice_none a_license_choice _ = refl
choice_none _ m = refl

row_none : (m : kinds.Member) → behind_row {A = Reason} m [] ≡ []
row_none (kinds.member name) = refl
row_none kinds.merged = refl

nothing_entered : (o : Option Reason) (xs : List (At Reason)) → o ≡ None → xs ≡ [] → entry_or o xs ≡ []
nothing_entered o xs h g = ap (λ o. entry_or o xs) h ∙ g

nothing_joined : (us vs : List (At Reason)) → us ≡ [] → vs ≡ [] → us ++ vs ≡ []
nothing_joined us vs h g = ap (λ us. us ++ vs) h ∙ g

-- what is taken of a row's field
abbrev pub row_lost : SpecVersion → ℕ → Row → Tree → List (At Reason)
row_lost u n r t = behind_row r.json (entry_or (field_reason u n r t) (lost u n t r.kind))

nothing_of_row : (u : SpecVersion) (n : ℕ) (r : Row) (t : Tree) → is_always r ≡ true → lacks is_losing t ≡ true → lost u n t r.kind ≡ [] → row_lost u n r t ≡ []
nothing_of_row u n r t a h e =
    ap (behind_row r.json) (nothing_entered (field_reason u n r t) (lost u n t r.kind) (no_field_reason u n r t a (spared_unchanged u r.kind t h)) e) ∙ row_none r.json

mutual
  unfolding lost lacks

  -- Of a tree without records that lose something nothing is taken.
  pub nothing_lost : (u : SpecVersion) (n : ℕ) (t : Tree) (k : Kind) → lacks is_losing t ≡ true → lost u n t k ≡ []
  nothing_lost u n absent k h = refl
  nothing_lost u n (text s) k h = refl
  nothing_lost u n (number m) k h = refl
  nothing_lost u n (boolean b) k h = refl
  nothing_lost u n (items ts) k h = nothing_of_items u n ts (held_kind k) 0 h
  nothing_lost u n (fields m ts) k h =
      let p = fields_lack is_losing m ts h in
      ap (behind_choice k m) (nothing_of_rows u n ts (rows m) (always_rows m p.0) p.2) ∙ choice_none k m

  pub nothing_of_items : (u : SpecVersion) (n : ℕ) (ts : Trees) (k : Kind) (i : ℕ) → all_lack is_losing ts ≡ true → items_lost u n ts k i ≡ []
  nothing_of_items u n none k i h = refl
  nothing_of_items u n (more t ts) k i h =
      let p = and_true (lacks is_losing t) (all_lack is_losing ts) h in
      nothing_joined (behind_step (to_item i) (entry_or (item_reason u n k t) (lost u n t k))) (items_lost u n ts k (suc i))
      (ap (behind_step (to_item i)) (nothing_entered (item_reason u n k t) (lost u n t k) (no_item_reason u n k t (spared_unchanged u k t p.0) (spared_written t p.0)) (nothing_lost u n t k p.0)))
      (nothing_of_items u n ts k (suc i) p.1)

  nothing_of_rows : (u : SpecVersion) (n : ℕ) (ts : Trees) (rs : List Row) → all_always rs ≡ true → all_lack is_losing ts ≡ true → rows_lost u n ts rs ≡ []
  nothing_of_rows u n none rs a h = refl
  nothing_of_rows u n (more t ts) [] a h = refl
  nothing_of_rows u n (more t ts) (r ∷ rs) a h =
      let p = and_true (lacks is_losing t) (all_lack is_losing ts) h in
      let q = and_true (is_always r) (all_always rs) a in
      nothing_joined (row_lost u n r t) (rows_lost u n ts rs) (nothing_of_row u n r t q.0 p.0 (nothing_lost u n t r.kind p.0)) (nothing_of_rows u n ts rs q.1 p.1)

-- ---- rows of which nothing is taken

abbrev is_spared_list : Lists → Bool
is_spared_list contacts = false
is_spared_list authors = false
is_spared_list patches = false
is_spared_list resolved = false
is_spared_list compositions = false
is_spared_list licenses = false
is_spared_list components = false
is_spared_list services = false
is_spared_list tool_list = false
is_spared_list flows = false
is_spared_list _ = true

abbrev is_spared_kind : Kind → Bool
is_spared_kind (a_list l) = is_spared_list l
is_spared_kind (a_record m) = not (is_losing m)
is_spared_kind a_license_choice = false
is_spared_kind a_tools = false
is_spared_kind a_data = false
is_spared_kind an_entry = false
is_spared_kind a_bill = false
is_spared_kind _ = true

abbrev is_spared_row : Row → Bool
is_spared_row r = is_always r && is_spared_kind r.kind

-- what is taken of the other rows
abbrev pub rows_left : SpecVersion → ℕ → Trees → List Row → List (At Reason)
rows_left u n none rs = []
rows_left u n (more t ts) [] = []
rows_left u n (more t ts) (r ∷ rs) = if is_spared_row r then rows_left u n ts rs else row_lost u n r t ++ rows_left u n ts rs

-- The fields of spared rows have no records that lose something.
abbrev pub are_spared : Trees → List Row → Bool
are_spared none rs = true
are_spared (more t ts) [] = true
are_spared (more t ts) (r ∷ rs) = (if is_spared_row r then lacks is_losing t else true) && are_spared ts rs

pub rows_spared : (u : SpecVersion) (n : ℕ) (ts : Trees) (rs : List Row) → are_spared ts rs ≡ true → rows_lost u n ts rs ≡ rows_left u n ts rs
unfolding lost
rows_spared u n none rs h = refl
rows_spared u n (more t ts) [] h = refl
rows_spared u n (more t ts) (r ∷ rs) h =
    let p = and_true (if is_spared_row r then lacks is_losing t else true) (are_spared ts rs) h in
    by (is_spared_row r) refl p.0 (rows_spared u n ts rs p.1)
  where
    by : (b : Bool) → is_spared_row r ≡ b → (if b then lacks is_losing t else true) ≡ true → rows_lost u n ts rs ≡ rows_left u n ts rs
        → row_lost u n r t ++ rows_lost u n ts rs ≡ (if b then rows_left u n ts rs else row_lost u n r t ++ rows_left u n ts rs)
    by true e l f = ap (λ xs. xs ++ rows_lost u n ts rs) (nothing_of_row u n r t (and_true (is_always r) (is_spared_kind r.kind) e).0 l (nothing_lost u n t r.kind l)) ∙ f
    by false e l f = ap (λ xs. row_lost u n r t ++ xs) f
