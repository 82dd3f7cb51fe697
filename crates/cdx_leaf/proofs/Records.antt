-- Steps of a record reader, one after the other.
use Rattle.std.proofs.Common.{◌≡◌, ℕ, ◌+◌, ◌-◌, Result, Ok, sym, ap, subst, arith}
use Rattle.cdx_events.specs.Cursor.{Cursor}
use Rattle.cdx_models.specs.declared.errors.XmlReadError.{XmlReadError}
use Rattle.cdx_leaf.specs.Fault.{FailsAt}
use Rattle.cdx_schema.specs.Results.{◌>>=◌}
use Rattle.cdx_leaf.proofs.Loop.{fails_along}

-- what failed in a first step, fails in all
pub first_fails : {A T : Type 0} (e : XmlReadError) (place : ℕ) (r : Result A XmlReadError) (f : A → Result T XmlReadError) → FailsAt e place r → FailsAt e place (r >>= f)
first_fails e place r f h = fails_along e place r (r >>= f) (λ x is. ap (λ q. q >>= f) is) h

-- and what came of a first step is passed on
pub then_fails : {A T : Type 0} (e : XmlReadError) (place : ℕ) (r : Result A XmlReadError) (a : A) (f : A → Result T XmlReadError) → r ≡ Ok a → FailsAt e place (f a) → FailsAt e place (r >>= f)
then_fails e place r a f is h = subst (λ q. FailsAt e place (q >>= f)) (sym is) h

-- k is where a reader stands, right after the start at place p
pub start_is : (old : Cursor) (p k : ℕ) → old.place ≡ p + 1 → k ≡ old.place → k - 1 ≡ p
start_is old p k e is = omega arith
