-- How calls and faults are counted.
use Rattle.std.specs.Prelude.{◌≡◌, ℕ, ◌+◌, ◌-◌, ◌^◌, ◌==◌, min, cond, Bool, List, Result, is_ok}
use Rattle.std.specs.List.{list_any}

-- one more, up to the last value of the type
abbrev pub one_more : ℕ → ℕ
one_more n = min (n + 1) (2 ^ 64 - 1)

-- the count after a call: one more exactly where it fails
abbrev pub counted : {T E : Type 0} → ℕ → Result T E → ℕ
counted faults r = cond (is_ok r) faults (one_more faults)

-- an object with its count of faults
pub record Counted (A : Type 0) : Type 0 where
  pub object : A
  pub faults : ℕ

-- the numbers of the calls that are to fail, and how many calls there were and failed
pub record Counts : Type 0 where
  pub fails : List ℕ
  pub calls : ℕ
  pub faults : ℕ

-- the next call, by its number from 1, is one that is to fail
abbrev pub is_told : Counts → Bool
is_told c = list_any (λ n. n == c.calls + 1) c.fails

-- a call is numbered, and counted where it fails
pub record AfterCall {T E : Type 0} (old new : Counts) (result : Result T E) : Type 0 where
  pub fails : new.fails ≡ old.fails
  pub calls : new.calls ≡ one_more old.calls
  pub faults : new.faults ≡ counted old.faults result
