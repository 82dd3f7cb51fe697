-- What every proof may need of truth values, options, numbers, lists and trees.
use Rattle.std.specs.Prelude.{nat_lt, nat_le, Bool, true, false, ◌||◌, Some}
use Rattle.std.proofs.Common.{◌≡◌, ℕ, ◌<◌, ◌≤◌, List, [], ◌∷◌, ◌++◌, refl, ap, arith}
use Rattle.cdx_models.specs.Trees.{Tree, Trees, more}

-- ---- truth values

pub choose : {A : Type 0} (b : Bool) → (b ≡ true → A) → (b ≡ false → A) → A
choose true f g = f refl
choose false f g = g refl

pub neither : (a b : Bool) → a ≡ false → b ≡ false → (a || b) ≡ false
neither a b p q = rw (p, q) refl

-- ---- options

pub some_same : {A : Type 0} {x y : A} → Some x ≡ Some y → x ≡ y
some_same e = cc

-- ---- numbers

pub lt_true : (m n : ℕ) → m < n → nat_lt m n ≡ true
lt_true m n h = grind arith

pub true_lt : (m n : ℕ) → nat_lt m n ≡ true → m < n
true_lt m n h = grind arith

pub true_le : (m n : ℕ) → nat_le m n ≡ true → m ≤ n
true_le m n h = grind arith

-- ---- lists and trees

pub append_lists : {A : Type 0} (x a b : List A) → x ++ (a ++ b) ≡ (x ++ a) ++ b
append_lists [] a b = refl
append_lists (e ∷ es) a b = ap (e ∷◌) (append_lists es a b)

pub more_is : {t u : Tree} {ts us : Trees} → t ≡ u → ts ≡ us → more t ts ≡ more u us
more_is p q = rw (p, q) refl
