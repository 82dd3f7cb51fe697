-- No JSON spelling holds a float.
use Rattle.std.specs.Prelude.{◌≡◌, refl, ℕ, suc, List, [], ◌∷◌, Bool, true, false, if◌then◌else◌, Option, Some, None, is_some, codes}
use Rattle.std.proofs.Common.{true≢false, Ordering, Less, Equal, Greater}
use Rattle.std.specs.Ordering.{nat_cmp, match_ordering}
use Rattle.std.specs.Cmp.Lexicographic.{slice_cmp}
use mathlib.Core.Path.{ap, ◌∙◌}
use Rattle.serde_json.specs.Data.{Data, Members, no_members, put}
use Rattle.serde_json.specs.Data as json
use Rattle.cdx_models.specs.declared.bom.SpecVersion.{SpecVersion}
use Rattle.cdx_models.specs.Trees.{Name, license, bill, Tree, items, fields, Trees, none, more}
use Rattle.cdx_schema.specs.Kinds.{Kind, a_license_choice, Member, member, merged, Row}
use Rattle.cdx_schema.specs.Table.{rows}
use Rattle.cdx_schema.specs.Held.{held_kind}
use Rattle.cdx_schema.specs.Faults.{to_member, to_item}
use Rattle.cdx_schema.specs.JsonReading.{first_float, float_of_items, float_of_members, or_else, behind}
use Rattle.cdx_schema.specs.JsonSpelling.{jspell, items_spelled, members_spelled, own_members, is_spelled, set_member, heading, in_choice}

pub or_none : {A : Type 0} (x y : Option A) → or_else x y ≡ None → (x ≡ None) × (y ≡ None)
or_none None y h = (refl, h)
or_none (Some x) y h = absurd (true≢false (ap is_some h))

put_floats : (q : List ℕ) (x : Data) (ms : Members) → first_float x ≡ None → float_of_members ms ≡ None → float_of_members (put q x ms) ≡ None
unfolding first_float
put_floats q x no_members f h = ap (λ o. or_else (behind (to_member q) o) None) f
put_floats q x (json.member l e ms) f h = by (slice_cmp nat_cmp q l) (or_none (behind (to_member l) (first_float e)) (float_of_members ms) h) (put_floats q x ms f)
  where
    by : (o : Ordering) → (behind (to_member l) (first_float e) ≡ None) × (float_of_members ms ≡ None) → (float_of_members ms ≡ None → float_of_members (put q x ms) ≡ None) → float_of_members (match_ordering o (json.member q x (json.member l e ms)) (json.member l x ms) (json.member l e (put q x ms))) ≡ None
    by Less p g = ap (λ o. or_else (behind (to_member q) o) (float_of_members (json.member l e ms))) f ∙ h
    by Equal p g = ap (λ o. or_else (behind (to_member l) o) (float_of_members ms)) f ∙ p.1
    by Greater p g = ap (or_else (behind (to_member l) (first_float e))) (g p.1) ∙ ap (λ o. or_else o None) p.0

choice_floats : (k : Kind) (n : Name) (ms : Members) → float_of_members ms ≡ None → first_float (in_choice k n (json.object ms)) ≡ None
unfolding first_float
choice_floats a_license_choice license ms h = ap (λ o. or_else (behind (to_member (codes "license")) o) None) h
choice_floats _ _ ms h = h

heading_floats : (n : Name) → float_of_members (heading n) ≡ None
unfolding first_float
heading_floats bill = refl
heading_floats _ = refl

set_floats : (b : Bool) (m : Member) (x : Data) (own : Members → Members) (ms : Members) → first_float x ≡ None → float_of_members ms ≡ None → float_of_members (own ms) ≡ None
    → float_of_members (if b then set_member m x own ms else ms) ≡ None
set_floats false m x own ms f h o = h
set_floats true (member q) x own ms f h o = put_floats q x ms f h
set_floats true merged x own ms f h o = o

mutual
  unfolding jspell first_float

  pub no_float : (t : Tree) (w : SpecVersion) (k : Kind) → first_float (jspell t w k) ≡ None
  no_float (items ts) w k = no_floats ts w (held_kind k) 0
  no_float (fields n ts) w k = choice_floats k n (members_spelled ts w (rows n) (heading n)) (no_row_float ts w (rows n) (heading n) (heading_floats n))
  no_float _ w k = refl

  no_floats : (ts : Trees) (w : SpecVersion) (k : Kind) (i : ℕ) → float_of_items i (items_spelled ts w k) ≡ None
  no_floats none w k i = refl
  no_floats (more t ts) w k i = ap (λ o. or_else (behind (to_item i) o) (float_of_items (suc i) (items_spelled ts w k))) (no_float t w k) ∙ no_floats ts w k (suc i)

  no_row_float : (ts : Trees) (w : SpecVersion) (rs : List Row) (ms : Members) → float_of_members ms ≡ None → float_of_members (members_spelled ts w rs ms) ≡ None
  no_row_float none w rs ms h = h
  no_row_float (more t ts) w [] ms h = h
  no_row_float (more t ts) w (r ∷ rs) ms h = no_row_float ts w rs (if is_spelled r t w then set_member r.json (jspell t w r.kind) (own_members t w) ms else ms)
      (set_floats (is_spelled r t w) r.json (jspell t w r.kind) (own_members t w) ms (no_float t w r.kind) h (no_own_float t w ms h))

  no_own_float : (t : Tree) (w : SpecVersion) (ms : Members) → float_of_members ms ≡ None → float_of_members (own_members t w ms) ≡ None
  no_own_float (fields n ts) w ms h = no_row_float ts w (rows n) ms h
  no_own_float _ w ms h = h
