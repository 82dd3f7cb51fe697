-- What is there stays there in each version, and what is hollow stays hollow.
use Rattle.std.specs.Prelude.{◌≡◌, refl, ℕ, List, [], ◌∷◌, Bool, true, false, not, ◌&&◌, ◌||◌, if◌then◌else◌}
use Rattle.std.proofs.Common.{ap, ◌∙◌}
use Rattle.cdx_models.specs.declared.bom.SpecVersion.{SpecVersion}
use Rattle.cdx_models.specs.declared.bom.SpecVersion.TheVariants.{V1_3, V1_4, V1_5}
use Rattle.cdx_models.specs.Versions.{knows, is_first}
use Rattle.cdx_models.specs.Trees.{Name, contact, entity, evidence, diff, source, tools_object, Tree, absent, text, boolean, number, items, fields, Trees, none, more, is_absent}
use Rattle.cdx_schema.specs.Kinds.{Kind, a_version, a_tools, an_entry, a_record, Row}
use Rattle.cdx_schema.specs.Table.{rows}
use Rattle.cdx_schema.specs.Keeping.{kept, keep, kept_text, before_1_5, rows_kept}
use Rattle.cdx_schema.specs.Trips.{is_child, no_child, is_hollow, is_passed_over}

-- ---- what is there stays there

-- An entry of data may become its classification; a tree of any other kind is there in each version, or in none.
abbrev pub keeps_presence : Kind → Bool
keeps_presence an_entry = false
keeps_presence _ = true

text_there : (l : SpecVersion) (k : Kind) (s : List ℕ) → is_absent (kept_text l k s) ≡ false
text_there l a_version s = refl
text_there l k s = refl

tools_there : (n : Name) (ts : Trees) → is_absent (before_1_5 a_tools n ts) ≡ false
tools_there tools_object ts = refl
tools_there n ts = refl

fields_there : (k : Kind) → keeps_presence k ≡ true → (n : Name) (ts : Trees) → is_absent (before_1_5 k n ts) ≡ false
fields_there a_tools e n ts = tools_there n ts
fields_there an_entry e n ts = absurd cc
fields_there k e n ts = refl

pub presence_kept : (k : Kind) → keeps_presence k ≡ true → (w l : SpecVersion) (t : Tree) → is_absent (kept w l t k) ≡ is_absent t
unfolding kept
presence_kept k e w l absent = refl
presence_kept k e w l (text s) = text_there l k s
presence_kept k e w l (number n) = refl
presence_kept k e w l (boolean b) = refl
presence_kept k e w l (items ts) = refl
presence_kept k e V1_3 l (fields n ts) = fields_there k e n (rows_kept V1_3 l ts (rows n))
presence_kept k e V1_4 l (fields n ts) = fields_there k e n (rows_kept V1_4 l ts (rows n))
presence_kept k e V1_5 l (fields n ts) = refl

-- ---- what is hollow stays hollow

-- Each of the rows is known to all versions.
abbrev pub all_known : List Row → Bool
all_known [] = true
all_known (r ∷ rs) = is_first r.since && keeps_presence r.kind && all_known rs

all_known_first : (s : SpecVersion) (p q : Bool) → (is_first s && p && q) ≡ true → s ≡ V1_3
all_known_first V1_3 p q e = refl
all_known_first V1_4 p q e = absurd cc
all_known_first V1_5 p q e = absurd cc

all_known_kind : (s : SpecVersion) (p q : Bool) → (is_first s && p && q) ≡ true → p ≡ true
all_known_kind V1_3 true q e = refl
all_known_kind V1_3 false q e = absurd cc
all_known_kind V1_4 p q e = absurd cc
all_known_kind V1_5 p q e = absurd cc

all_known_rest : (s : SpecVersion) (p q : Bool) → (is_first s && p && q) ≡ true → q ≡ true
all_known_rest V1_3 true q e = e
all_known_rest V1_3 false q e = absurd cc
all_known_rest V1_4 p q e = absurd cc
all_known_rest V1_5 p q e = absurd cc

no_child_kept : (rs : List Row) → all_known rs ≡ true → (w l : SpecVersion) (ts : Trees) → no_child (rows_kept w l ts rs) rs ≡ no_child ts rs
unfolding kept
no_child_kept rs e w l none = refl
no_child_kept [] e w l (more t ts) = refl
no_child_kept (r ∷ rs) e w l (more t ts) =
    let first = all_known_first r.since (keeps_presence r.kind) (all_known rs) e in
    let here = ap (λ s. is_absent (if knows s w then kept w l t r.kind else absent)) first ∙ presence_kept r.kind (all_known_kind r.since (keeps_presence r.kind) (all_known rs) e) w l t in
    ap (λ b. (not (is_child r.xml) || b) && no_child (rows_kept w l ts rs) rs) here
    ∙ ap (λ b. (not (is_child r.xml) || is_absent t) && b) (no_child_kept rs (all_known_rest r.since (keeps_presence r.kind) (all_known rs) e) w l ts)

hollow_kept : (n : Name) → all_known (rows n) ≡ true → (w l : SpecVersion) (ts : Trees) → is_hollow (kept w l (fields n ts) (a_record n)) ≡ is_hollow (fields n ts)
unfolding kept is_hollow
hollow_kept n e V1_3 l ts = no_child_kept (rows n) e V1_3 l ts
hollow_kept n e V1_4 l ts = no_child_kept (rows n) e V1_4 l ts
hollow_kept n e V1_5 l ts = no_child_kept (rows n) e V1_5 l ts

-- A record of the kind is hollow in a version where it is hollow.
abbrev pub KeepsHollow : Kind → Tree → Type 0
KeepsHollow k t = (w : SpecVersion) → is_hollow (keep w t k) ≡ is_hollow t

pub entity_keeps_hollow : (ts : Trees) → KeepsHollow (a_record entity) (fields entity ts)
unfolding rows
entity_keeps_hollow ts w = hollow_kept entity refl w w ts

pub evidence_keeps_hollow : (ts : Trees) → KeepsHollow (a_record evidence) (fields evidence ts)
unfolding rows
evidence_keeps_hollow ts w = hollow_kept evidence refl w w ts

pub diff_keeps_hollow : (ts : Trees) → KeepsHollow (a_record diff) (fields diff ts)
unfolding rows
diff_keeps_hollow ts w = hollow_kept diff refl w w ts

pub source_keeps_hollow : (ts : Trees) → KeepsHollow (a_record source) (fields source ts)
unfolding rows
source_keeps_hollow ts w = hollow_kept source refl w w ts

-- ---- what a list passes over in one version it passes over in each

passed_fields : (k : Kind) (n : Name) (ts : Trees) → keeps_presence k ≡ true → is_passed_over (before_1_5 k n ts) ≡ is_passed_over (fields n ts)
passed_fields a_tools tools_object ts e = refl
passed_fields a_tools n ts e = refl
passed_fields an_entry n ts e = absurd cc
passed_fields k n ts e = refl

passed_text : (l : SpecVersion) (k : Kind) (s : List ℕ) → is_passed_over (kept_text l k s) ≡ false
passed_text l a_version s = refl
passed_text l k s = refl

passed_rows : (w l : SpecVersion) (n : Name) (ts : Trees) → is_passed_over (fields n (rows_kept w l ts (rows n))) ≡ is_passed_over (fields n ts)
unfolding is_hollow rows
passed_rows w l contact ts = no_child_kept (rows contact) refl w l ts
passed_rows w l n ts = refl

pub passed_kept : (k : Kind) → keeps_presence k ≡ true → (w l : SpecVersion) (t : Tree) → is_passed_over (kept w l t k) ≡ is_passed_over t
unfolding kept
passed_kept k e w l absent = refl
passed_kept k e w l (text s) = passed_text l k s
passed_kept k e w l (number n) = refl
passed_kept k e w l (boolean b) = refl
passed_kept k e w l (items ts) = refl
passed_kept k e V1_3 l (fields n ts) = passed_fields k n (rows_kept V1_3 l ts (rows n)) e ∙ passed_rows V1_3 l n ts
passed_kept k e V1_4 l (fields n ts) = passed_fields k n (rows_kept V1_4 l ts (rows n)) e ∙ passed_rows V1_4 l n ts
passed_kept k e V1_5 l (fields n ts) = passed_rows V1_5 l n ts
