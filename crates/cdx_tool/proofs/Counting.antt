-- The number that a word is.
use Rattle.std.proofs.Common.{◌≡◌, ℕ, ◌<◌, ◌≤◌, ◌^◌, List, [], ◌∷◌, length, Bool, true, false, ◌&&◌, cond, ltb, leb, Option, None, Result, Ok, Err, inl, inr, refl, sym, arith, rules}
use Rattle.std.specs.Result.{OkIff}
use Rattle.std.specs.Str.{all_ascii_digits}
use Rattle.std.specs.Str.Parse.{ParsesUnsigned}
use Rattle.std.proofs.lemmas.Bool.{lt-leb, and_right}
use Rattle.std.proofs.lemmas.Bool.Decides.{eqb_tells}
use Rattle.std.proofs.lemmas.Str.Parse.{IsNumeralModel, numerals_by_fold, parse_plain}
use Rattle.cdx_tool.specs.Words.{digits_read, is_plain_number, is_led, counted_if, most, count_of}

-- the words for digits and their number
numerals : IsNumeralModel (λ ds. all_ascii_digits ds ≡ true) (digits_read 0)
numerals = numerals_by_fold _ (search rules) digits_read (search rules)

abbrev pub found : {E : Type 0} → Result ℕ E → Option ℕ
found (Ok n) = counted_if n
found (Err e) = None

no_count : (b : Bool) (o : Option ℕ) → b ≡ false → cond b o None ≡ None
no_count b o h = rw h refl

-- a word that begins with 0 or a sign is no number, and neither is no word
pub none_led : (s : List ℕ) → is_led s ≡ false → None ≡ count_of s
none_led [] h = refl
none_led (c ∷ cs) h =
    elim (eqb_tells c 48) [
      | inl zero_is ↦ sym (no_count (is_plain_number (c ∷ cs)) _ (rw (zero_is.0) refl))
      | inr other ↦ elim (eqb_tells c 43) [
        | inl sign ↦ sym (no_count (is_plain_number (c ∷ cs)) _ (rw (other.0, sign.1) refl))
        | inr neither ↦ let e : true ≡ false = rw (other.0, neither.0) at h in absurd cc
      ]
    ]

beyond : (n : ℕ) → 2 ^ 32 ≤ n → counted_if n ≡ None
beyond n h = no_count (ltb 0 n && leb n most) _ (and_right (ltb 0 n) (leb n most) (lt-leb n most (omega arith)))

refused : (b : Bool) (n : ℕ) → ((b ≡ true) → n < 2 ^ 32 → ⊥) → cond b (counted_if n) None ≡ None
refused false n h = refl
refused true n h = beyond n (at_least n (h refl))
  where
    at_least : (n : ℕ) → (n < 2 ^ 32 → ⊥) → 2 ^ 32 ≤ n
    at_least n h = omega arith

pub counts : {E : Type 0} (s : List ℕ) (r : Result ℕ E) → is_led s ≡ true → ParsesUnsigned 32 10 s r → found r ≡ count_of s
counts [] r led h = absurd cc
counts (c ∷ cs) r led h =
    elim (eqb_tells c 48) [
      | inl zero_is ↦ let e : false ≡ true = rw zero_is.0 at led in absurd cc
      | inr other ↦ elim (eqb_tells c 43) [
        | inl sign ↦ let e : false ≡ true = rw (other.0, sign.0) at led in absurd cc
        | inr neither ↦ by r (rw other.0 refl) (parse_plain numerals 32 (c ∷ cs) r h neither.1)
      ]
    ]
  where
    by : {E : Type 0} (r : Result ℕ E) → is_plain_number (c ∷ cs) ≡ all_ascii_digits (c ∷ cs) → OkIff r ((all_ascii_digits (c ∷ cs) ≡ true) × (0 < length (c ∷ cs)) × (digits_read 0 (c ∷ cs) < 2 ^ 32)) (digits_read 0 (c ∷ cs)) → found r ≡ count_of (c ∷ cs)
    by (Ok n) is p = rw (is, p.0.0, p.1) refl
    by (Err e) is p = rw is (sym (refused (all_ascii_digits (c ∷ cs)) (digits_read 0 (c ∷ cs)) (λ d lt. p (d, omega arith, lt))))
