-- A number as std formats it is the schema's decimal.
use Rattle.std.proofs.Common.{◌≡◌, ℕ, suc, ◌+◌, ◌/◌, ◌%◌, ◌<◌, ◌≤◌, ◌^◌, true, false, nat_lt, if◌then◌else◌, [], ◌∷◌, ◌++◌, sym, ap, arith}
use Rattle.std.specs.Fmt.{decimal}
use Rattle.std.proofs.lemmas.Fmt.{decimal_from_appends, length-decimal-le}
use Rattle.cdx_schema.specs.XmlTexts.{decimal_from}
use Rattle.cdx_schema.specs.XmlTexts as schema

below : (n : ℕ) → n < 10 → nat_lt n 10 ≡ true
below n h = grind arith

not_below : (n : ℕ) → 10 ≤ n → nat_lt n 10 ≡ false
not_below n h = grind arith

one_digit : (k n : ℕ) → n < 10 → decimal_from (suc k) n ≡ (48 + n) ∷ []
one_digit k n h = ap (λ b. if b then (48 + n) ∷ [] else decimal_from k (n / 10) ++ ((48 + n % 10) ∷ [])) (below n h)

more_digits : (k n : ℕ) → 10 ≤ n → decimal_from (suc k) n ≡ decimal_from k (n / 10) ++ ((48 + n % 10) ∷ [])
more_digits k n h = ap (λ b. if b then (48 + n) ∷ [] else decimal_from k (n / 10) ++ ((48 + n % 10) ∷ [])) (not_below n h)

pub decimal_is : (n : ℕ) → n < 2 ^ 32 → decimal n ≡ schema.decimal n
decimal_is n h = sym (decimal_from_appends decimal_from (record { one = one_digit; more = more_digits }) 10 n (omega arith) (length-decimal-le 10 n (omega arith) (omega arith) (omega arith)))
