-- A long text's pieces, one after another.
use Rattle.std.proofs.Common.{◌≡◌, ◌∙◌, ℕ, ◌+◌, ◌<◌, ◌≤◌, List, [], ◌∷◌, ◌++◌, length, take, drop, get_or, Option, refl, sym, ap, subst, arith, length-append, append_assoc, append-nil}
use Rattle.std.specs.List.{concat}
use Rattle.std.specs.Io.KnownBytes.{Appends}
use Rattle.std.proofs.KnownBytes.{Appends-trans}
use Rattle.std.proofs.Math.Seq.{take-append-add}
use Rattle.std.proofs.lemmas.List.{take_more, take-append-drop, take-append-le, drop_more}

concat_append : (xs ys : List (List ℕ)) → concat (xs ++ ys) ≡ concat xs ++ concat ys
concat_append [] ys = refl
concat_append (x ∷ xs) ys = ap (λ s. x ++ s) (concat_append xs ys) ∙ sym (append_assoc x (concat xs) (concat ys))

-- one piece more
pub one_more : (xs : List (List ℕ)) (x : List ℕ) → concat (xs ++ x ∷ []) ≡ concat xs ++ x
one_more xs x = concat_append xs (x ∷ []) ∙ ap (λ s. concat xs ++ s) (append-nil x)

-- the pieces up to the next one
pub up_to_next : (xs : List (List ℕ)) (i : ℕ) (d : List ℕ) → i < length xs → concat (take (i + 1) xs) ≡ concat (take i xs) ++ get_or xs i d
up_to_next xs i d h = ap concat (take_more xs i d h) ∙ one_more (take i xs) (get_or xs i d)

-- What comes after the first pieces is the rest.
pub in_two : (xs : List (List ℕ)) (i : ℕ) → concat xs ≡ concat (take i xs) ++ concat (drop i xs)
in_two xs i = ap concat (sym (take-append-drop i xs)) ∙ concat_append (take i xs) (drop i xs)

-- so that a piece is within the whole
pub within : (xs : List (List ℕ)) (i : ℕ) (d : List ℕ) → i < length xs → length (concat (take i xs)) + length (get_or xs i d) ≤ length (concat xs)
within xs i d h =
    let next = ap length (up_to_next xs i d h) ∙ length-append (concat (take i xs)) (get_or xs i d) in
    let all = ap length (in_two xs (i + 1)) ∙ length-append (concat (take (i + 1) xs)) (concat (drop (i + 1) xs)) in
    omega arith

-- The first bytes of the whole: the pieces before one, and its first bytes.
pub front : (xs : List (List ℕ)) (i : ℕ) (d : List ℕ) (n : ℕ) → i < length xs → n ≤ length (get_or xs i d) → take (length (concat (take i xs)) + n) (concat xs) ≡ concat (take i xs) ++ take n (get_or xs i d)
front xs i d n h short =
    let before = concat (take i xs) in
    ap (take (length before + n)) (in_two xs i ∙ ap (λ ps. before ++ concat ps) (drop_more xs i d h))
    ∙ take-append-add before (get_or xs i d ++ concat (drop (i + 1) xs)) n
    ∙ ap (λ s. before ++ s) (take-append-le n (get_or xs i d) (concat (drop (i + 1) xs)) short)

-- Bytes went out, of which the last are those of a piece.
pub goes_out : (a b c : Option (List ℕ)) (before piece bytes : List ℕ) → bytes ≡ before ++ piece → Appends a b before → Appends b c piece → Appends a c bytes
goes_out a b c before piece bytes is p q = subst (Appends a c) (sym is) (Appends-trans a b c before piece p q)
