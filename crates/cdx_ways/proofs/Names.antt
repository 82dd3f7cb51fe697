-- The JSON names of a record's rows differ.
use Rattle.std.specs.Prelude.{◌≡◌, refl, List, [], ◌∷◌, Bool, true, false, not, ◌&&◌, ◌||◌}
use Rattle.std.proofs.Common.{true≢false}
use mathlib.Core.Path.{ap, sym, ◌∙◌}
use Rattle.cdx_models.specs.declared.errors.Step.{Step}
use Rattle.cdx_models.specs.Trees.{Name, hash}
use Rattle.cdx_schema.specs.Faults.{to_member}
use Rattle.cdx_schema.specs.Kinds as kinds
use Rattle.cdx_schema.specs.Kinds.{Row}
use Rattle.cdx_schema.specs.Table.{rows}
use Rattle.cdx_schema.proofs.JsonBack.{not_true}
use Rattle.cdx_schema.proofs.Literals.{reading_on_literals}
use Rattle.cdx_ways.specs.Ways.{is_step}
use Rattle.cdx_ways.proofs.Lists.{step_is, Disjoint}

-- the step is to the member of a row
abbrev pub is_row : kinds.Member → Step → Bool
is_row (kinds.member name) s = is_step (to_member name) s
is_row kinds.merged s = false

-- the step is to the member of one of the rows
abbrev pub is_named : List Row → Step → Bool
is_named [] s = false
is_named (r ∷ rs) s = is_row r.json s || is_named rs s

abbrev pub is_new : kinds.Member → List Row → Bool
is_new (kinds.member name) rs = not (is_named rs (to_member name))
is_new kinds.merged rs = true

abbrev pub names_differ : List Row → Bool
names_differ [] = true
names_differ (r ∷ rs) = is_new r.json rs && names_differ rs

pub differ_in : (n : Name) → names_differ (rows n) ≡ true
unfolding rows reading_on_literals
differ_in hash = refl
differ_in _ = refl

abbrev pub IsRow : kinds.Member → Step → Type 0
IsRow m s = is_row m s ≡ true

abbrev pub IsNamed : List Row → Step → Type 0
IsNamed rs s = is_named rs s ≡ true

pub new_row : (m : kinds.Member) (rs : List Row) → is_new m rs ≡ true → Disjoint (IsRow m) (IsNamed rs)
new_row (kinds.member name) rs h s e g = true≢false (sym g ∙ (ap (is_named rs) (sym (step_is (to_member name) s e)) ∙ not_true (is_named rs (to_member name)) h))
new_row kinds.merged rs h s e g = true≢false (sym e)
