-- What is printed behind the pieces of a long text.
use Rattle.std.proofs.Common.{◌≡◌, ◌∙◌, ℕ, List, ◌++◌, Result, Ok, Err, OnOk, sym, ap, append_assoc}

-- more behind the last piece
pub behind : (pieces old more new : List ℕ) → new ≡ old ++ more → pieces ++ new ≡ (pieces ++ old) ++ more
behind pieces old more new is = ap (λ s. pieces ++ s) is ∙ sym (append_assoc pieces old more)

pub behind_if : {A E : Type 0} (pieces old more new : List ℕ) (r : Result A E) → OnOk r (new ≡ old ++ more) → OnOk r (pieces ++ new ≡ (pieces ++ old) ++ more)
behind_if pieces old more new (Ok u) h = behind pieces old more new h
behind_if pieces old more new (Err e) h = tt
