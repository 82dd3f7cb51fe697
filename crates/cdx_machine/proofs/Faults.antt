-- Refusals, and where their faults stand.
use Rattle.std.proofs.Common.{◌≡◌, ℕ, suc, ◌≤◌, Result, Err, sym, ap, ◌∙◌, subst}
use Rattle.cdx_models.specs.declared.errors.XmlReadError.{XmlReadError}
use Rattle.cdx_models.specs.declared.errors.XmlReadError.TheVariants.{Memory}
use Rattle.cdx_schema.specs.Locality.{fault_place}
use Rattle.cdx_leaf.specs.Fault.{FailsAt, Refused}
use Rattle.cdx_machine.specs.Machines.{RefusesBefore, IsQuiet}

-- a fault of what is denoted, which is one of the whole too
pub refuses_along : {S T : Type 0} (e : XmlReadError) (q p : ℕ) (r : Result S XmlReadError) (s : Result T XmlReadError) → ((f : XmlReadError) → r ≡ Err f → (s ≡ Err f) × (suc (fault_place f) ≡ p)) → FailsAt e q r → RefusesBefore e p s
refuses_along (Memory m) q p r s along h = tt
refuses_along e q p r s along h = along _ h.0

pub refuses_on : {S T : Type 0} (e : XmlReadError) (q p : ℕ) (r : Result S XmlReadError) (s : Result T XmlReadError) → ((f : XmlReadError) → r ≡ Err f → s ≡ Err f) → q ≡ p → RefusesBefore e q r → RefusesBefore e p s
refuses_on (Memory m) q p r s along is h = tt
refuses_on e q p r s along is h = (along _ h.0, h.1 ∙ is)

-- refused with a fault that is denoted, at the last event
pub refuses_known : (X : Type 0) {T : Type 0} (e fault : XmlReadError) (p : ℕ) (s : Result T XmlReadError) → Refused {X = X} (Err e) fault → s ≡ Err fault → suc (fault_place fault) ≡ p → RefusesBefore e p s
refuses_known X (Memory m) fault p s h is at = tt
refuses_known X e fault p s h is at = (is ∙ ap (λ f. Err f) (sym h), ap (λ f. suc (fault_place f)) h ∙ at)

-- what is denoted has no fault before its end
pub quiet_at : {T : Type 0} (p q : ℕ) (r s : Result T XmlReadError) → r ≡ s → ((f : XmlReadError) → s ≡ Err f → fault_place f ≡ q) → p ≤ q → IsQuiet p r
quiet_at p q r s is at l f h = subst (λ (i : ℕ). p ≤ i) (sym (at f (sym is ∙ h))) l
