-- The children of a plan, found and read in groups.
use Rattle.std.proofs.Common.{◌≡◌, ℕ, zero, suc, ◌+◌, ◌-◌, ◌≤◌, ◌<◌, List, [], ◌∷◌, ◌++◌, length, Bool, true, false, refl, ap, ◌∙◌, arith}
use Rattle.std.specs.Prelude.{◌&&◌, if◌then◌else◌}
use Rattle.std.specs.Str.{bytes_eq}
use Rattle.cdx_models.specs.declared.bom.SpecVersion.{SpecVersion}
use Rattle.cdx_models.specs.Versions.{knows}
use Rattle.cdx_models.specs.Trees.{Trees, field}
use Rattle.cdx_schema.specs.XmlReading.{Child, is_second}
use Rattle.cdx_machine.specs.Several.{at_position, found_from}
use Rattle.cdx_machine.specs.declared.frame.FoundChild.{FoundChild}
use Rattle.cdx_machine.specs.declared.frame.FoundChild.TheVariants.{At, Unknown, Second}

-- what the first group knows, or else what the others do
abbrev pub or_found : FoundChild → FoundChild → FoundChild
or_found (At i) r = At i
or_found Second r = Second
or_found Unknown r = r

pub taken_first : (r q : FoundChild) → (r ≡ Unknown → ⊥) → r ≡ or_found r q
taken_first (At i) q known = refl
taken_first Second q known = refl
taken_first Unknown q known = absurd (known refl)

module _ (ts : Trees) (v : SpecVersion) (s : List ℕ) where
  pub found_in_two : (i : ℕ) (cs ds : List Child) → found_from i (cs ++ ds) ts v s ≡ or_found (found_from i cs ts v s) (found_from (i + length cs) ds ts v s)
  found_in_two i [] ds = ap (λ j. found_from j ds ts v s) (none_more i)
    where
      none_more : (i : ℕ) → i ≡ i + 0
      none_more i = omega arith
  found_in_two i (c ∷ cs) ds = by (bytes_eq s c.name && knows c.since v) (is_second c.place (field c.field ts)) (found_in_two (suc i) cs ds ∙ ap (λ j. or_found (found_from (suc i) cs ts v s) (found_from j ds ts v s)) (one_more i (length cs)))
    where
      one_more : (i k : ℕ) → suc i + k ≡ i + suc k
      one_more i k = omega arith

      by : (b second : Bool) → found_from (suc i) (cs ++ ds) ts v s ≡ or_found (found_from (suc i) cs ts v s) (found_from (i + suc (length cs)) ds ts v s)
          → (if b then (if second then Second else At i) else found_from (suc i) (cs ++ ds) ts v s) ≡ or_found (if b then (if second then Second else At i) else found_from (suc i) cs ts v s) (found_from (i + suc (length cs)) ds ts v s)
      by true true others = refl
      by true false others = refl
      by false second others = others

-- ---- positions

pub at_first : {A : Type 0} (xs ys : List A) (i : ℕ) → i < length xs → at_position (xs ++ ys) i ≡ at_position xs i
at_first [] ys i h = absurd (omega (arith, h))
at_first (x ∷ xs) ys zero h = refl
at_first (x ∷ xs) ys (suc i) h = at_first xs ys i (omega (arith, h))

pub at_later : {A : Type 0} (xs ys : List A) (i : ℕ) → length xs ≤ i → at_position (xs ++ ys) i ≡ at_position ys (i - length xs)
at_later [] ys i h = ap (λ j. at_position ys j) (all_left i)
  where
    all_left : (i : ℕ) → i ≡ i - 0
    all_left i = omega arith
at_later (x ∷ xs) ys zero h = absurd (omega (arith, h))
at_later (x ∷ xs) ys (suc i) h = at_later xs ys i (omega (arith, h)) ∙ ap (λ j. at_position ys j) (one_less i (length xs))
  where
    one_less : (i k : ℕ) → i - k ≡ suc i - suc k
    one_less i k = omega arith
