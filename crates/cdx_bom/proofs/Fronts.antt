-- Putting a text in turns.
use Rattle.std.proofs.Common.{◌≡◌, ℕ, ◌+◌, ◌≤◌, List, ◌++◌, length, take, drop, Option, sym, subst}
use Rattle.std.specs.Io.KnownBytes.{Appends}
use Rattle.std.proofs.KnownBytes.{Appends-trans}
use Rattle.std.proofs.lemmas.List.{length-take-le, take-append-drop}
use Rattle.std.proofs.Math.Seq.{take-append-add}

-- two fronts, one after the other
two_fronts : (bs : List ℕ) (at n : ℕ) → at ≤ length bs → take at bs ++ take n (drop at bs) ≡ take (at + n) bs
two_fronts bs at n h =
    let e = take-append-add (take at bs) (drop at bs) n in
    sym (rw (length-take-le at bs h, take-append-drop at bs) at e)

pub goes_on : (a b c : Option (List ℕ)) (bs : List ℕ) (at n : ℕ) → at ≤ length bs → Appends a b (take at bs) → Appends b c (take n (drop at bs)) → Appends a c (take (at + n) bs)
goes_on a b c bs at n h p q = subst (Appends a c) (two_fronts bs at n h) (Appends-trans a b c (take at bs) (take n (drop at bs)) p q)
