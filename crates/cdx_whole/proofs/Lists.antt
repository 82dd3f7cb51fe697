-- Lists of values of a kind, item by item.
use Rattle.std.proofs.Common.{◌≡◌, ℕ, ◌+◌, ◌<◌, ◌≤◌, List, [], ◌∷◌, length, get_or, subst}
use Rattle.std.specs.List.{All, AllWithin}
use Rattle.std.proofs.lemmas.List.Elements.{at_read, All-head, All-tail, All-from_all_within, AllWithin-none, AllWithin-more, AllWithin-upto}
use Rattle.cdx_models.specs.Trees.{Tree, each}
use Rattle.cdx_schema.specs.Kinds.{Kind}
use Rattle.cdx_schema.specs.Membership.{IsOf}
use Rattle.cdx_whole.specs.Fields.{AreOf}

are_of : {A : Type 0} (f : A → Tree) (k : Kind) (xs : List A) → All (λ x. IsOf (f x) k) xs → AreOf (each f xs) k
are_of f k [] h = tt
are_of f k (x ∷ xs) h = (All-head (λ y. IsOf (f y) k) x xs h, are_of f k xs (All-tail (λ y. IsOf (f y) k) x xs h))

-- the same items, where each is of another kind too
pub as_others : {A : Type 0} (f g : A → Tree) (k j : Kind) → ((x : A) → IsOf (f x) k → IsOf (g x) j) → (xs : List A) → AreOf (each f xs) k → AreOf (each g xs) j
as_others f g k j step [] h = tt
as_others f g k j step (x ∷ xs) h = (step x h.0, as_others f g k j step xs h.1)

-- ---- a walk over a list

-- the items before a place are of the kind
abbrev pub ToldTo : {A : Type 0} (f : A → Tree) (k : Kind) → List A → ℕ → Type 0
ToldTo f k xs i = AllWithin (λ x. IsOf (f x) k) xs 0 i

pub none_told : {A : Type 0} (f : A → Tree) (k : Kind) (xs : List A) → ToldTo f k xs 0
none_told f k xs = AllWithin-none (λ x. IsOf (f x) k) xs 0

pub one_more_told : {A : Type 0} (f : A → Tree) (k : Kind) (xs : List A) (i : ℕ) (x : A) → i < length xs → x ≡ get_or xs i x → IsOf (f x) k → ToldTo f k xs i → ToldTo f k xs (i + 1)
one_more_told f k xs i x there is told before =
    AllWithin-more (λ y. IsOf (f y) k) xs 0 i before (at_read xs (λ y. IsOf (f y) k) i x there is told)

pub all_told : {A : Type 0} (f : A → Tree) (k : Kind) (xs ys : List A) (i : ℕ) → length xs ≤ i → xs ≡ ys → ToldTo f k xs i → AreOf (each f ys) k
all_told f k xs ys i end is told =
    subst (λ zs. AreOf (each f zs) k) is (are_of f k xs (All-from_all_within (λ x. IsOf (f x) k) xs (AllWithin-upto (λ x. IsOf (f x) k) xs 0 i (length xs) end told)))
