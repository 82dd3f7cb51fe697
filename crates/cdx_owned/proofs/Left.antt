-- What an iterator has left of a list.
use Rattle.std.proofs.Common.{◌≡◌, ℕ, ◌+◌, ◌<◌, ◌≤◌, List, ◌∷◌, length, drop, get_or, ap, ◌∙◌, arith, length-drop}
use Rattle.std.proofs.lemmas.List.{drop_more}

-- The next item is the one at the place, and the others are left.
pub next_is : {A : Type 0} (all : List A) (i : ℕ) (x : A) (rest : List A) → x ∷ rest ≡ drop i all → (i < length all) × (x ≡ get_or all i x) × (rest ≡ drop (i + 1) all)
next_is all i x rest h =
    let long = ap length h ∙ length-drop i all in
    let there : i < length all = omega arith in
    let split : x ∷ rest ≡ get_or all i x ∷ drop (i + 1) all = h ∙ drop_more all i x there in
    (there, cc, cc)

-- Nothing is left at the end.
pub all_are : {A : Type 0} (all : List A) (i : ℕ) (rest : List A) → rest ≡ drop i all → length rest ≡ 0 → length all ≤ i
all_are all i rest h none = let long = ap length h ∙ length-drop i all in omega arith
