-- Several machines in a row.
use Rattle.std.proofs.Common.{◌≡◌, ℕ, zero, suc, ◌-◌, List, [], ◌∷◌, Some, None, refl, ap, ◌∙◌, subst, arith}
use Rattle.cdx_events.specs.declared.event.XmlEvent.{XmlEvent}
use Rattle.cdx_models.specs.declared.bom.SpecVersion.{SpecVersion}
use Rattle.cdx_schema.specs.Depth.{Depth}
use Rattle.cdx_machine.specs.Begun.{Begun}
use Rattle.cdx_machine.specs.Machines.{Holding, CanStep}
use Rattle.cdx_machine.specs.Several.{at_position}
use Rattle.cdx_schema.proofs.Basics.{some_same}

-- The first of a row stands at 0.
pub first_is : {A : Type 0} (x y : A) (xs : List A) (i : ℕ) → i ≡ 0 → at_position (x ∷ xs) i ≡ Some y → x ≡ y
first_is x y xs zero at is = some_same is
first_is x y xs (suc i) at is = absurd (omega (arith, at))

one_less : (k : ℕ) → suc k - 1 ≡ k
one_less k = omega arith

-- The others stand one place further on.
pub other_is : {A : Type 0} (x y : A) (xs : List A) (i : ℕ) → (i ≡ 0 → ⊥) → at_position (x ∷ xs) i ≡ Some y → at_position xs (i - 1) ≡ Some y
other_is x y xs zero not is = absurd (not refl)
other_is {A = A} x y xs (suc i) not is = ap (λ j. at_position xs j) (one_less i) ∙ is

pub other_at : (i j : ℕ) → (i ≡ 0 → ⊥) → j ≡ i - 1 → suc j ≡ i
other_at zero j not is = absurd (not refl)
other_at (suc i) j not is = ap suc (is ∙ one_less i)

-- a row of one
pub only_is : {A : Type 0} (x y : A) (i : ℕ) → at_position (x ∷ []) i ≡ Some y → x ≡ y
only_is x y zero is = some_same is
only_is x y (suc i) is = absurd (let wrong : None ≡ Some y = is in cc)

-- ---- one machine of several, as a machine of its own

module _ {M N : Type 0} {holds : Holding M} {holds' : Holding N} where
  pub can_inside : (n w : N) (m : M) (place : ℕ) (event : XmlEvent) → n ≡ w → ((v : SpecVersion) (p : ℕ) (d : Depth) (o : Begun) → holds' w v p d o → holds m v p d o) → CanStep holds' n place event → CanStep holds m place event
  can_inside n w m place event is down h = record { v = h.v; p = h.p; d = h.d; o = h.o; held = down h.v h.p h.d h.o (subst (λ (x : N). holds' x h.v h.p h.d h.o) is h.held); place_is = h.place_is; takes = h.takes }
