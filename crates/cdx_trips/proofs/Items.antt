-- Lists of records, one item after the other.
use Rattle.std.proofs.Common.{◌≡◌, ℕ, suc, ◌<◌, ◌≤◌, ◌+◌, ◌==◌, eqb-true, arith, Bool, true, false, not, ◌&&◌, if◌then◌else◌, List, [], ◌∷◌, drop, get_or, length, refl, sym, ap, ◌∙◌}
use Rattle.std.proofs.lemmas.List.{at_drop_more, at_drop_all}
use Rattle.cdx_models.specs.Trees.{Tree, each, list_tree}
use Rattle.cdx_schema.specs.Kinds.{Kind, a_tools, optional}
use Rattle.cdx_schema.specs.Trips.{is_passed_over}
use Rattle.cdx_trips.specs.Surviving.{may_lose, is_nothing, comes_as_list, survives, items_survive}

-- what is asked of an item
abbrev pub item_survives : Tree → Kind → Bool
item_survives t k = if may_lose k then not (is_passed_over t) && survives t k else true

-- what is asked of the items from a position on
abbrev pub from : {A : Type 0} → (A → Tree) → Kind → List A → ℕ → Bool
from f k xs i = items_survive (each f (drop i xs)) k

from_step : {A : Type 0} (f : A → Tree) (k : Kind) (xs : List A) (i : ℕ) (x : A) → i < length xs → x ≡ get_or xs i x → from f k xs i ≡ (item_survives (f x) k && from f k xs (i + 1))
unfolding survives
from_step f k xs i x h p = at_drop_more (λ zs. items_survive (each f zs) k) xs i x h ∙ ap (λ z. item_survives (f z) k && from f k xs (i + 1)) (sym p)

pub from_end : {A : Type 0} (f : A → Tree) (k : Kind) (xs : List A) (i : ℕ) → length xs ≤ i → from f k xs i ≡ true
unfolding survives
from_end f k xs i h = at_drop_all (λ zs. items_survive (each f zs) k) xs i h

pub from_goes : {A : Type 0} (f : A → Tree) (k : Kind) (xs : List A) (i : ℕ) (x : A) (b : Bool) → i < length xs → x ≡ get_or xs i x → item_survives (f x) k ≡ true → from f k xs i ≡ b → from f k xs (i + 1) ≡ b
from_goes f k xs i x b h p e inv = sym (from_step f k xs i x h p ∙ ap (λ c. c && from f k xs (i + 1)) e) ∙ inv

pub from_stops : {A : Type 0} (f : A → Tree) (k : Kind) (xs : List A) (i : ℕ) (x : A) (b : Bool) → i < length xs → x ≡ get_or xs i x → item_survives (f x) k ≡ false → from f k xs i ≡ b → false ≡ b
from_stops f k xs i x b h p e inv = sym (from_step f k xs i x h p ∙ ap (λ c. c && from f k xs (i + 1)) e) ∙ inv

-- ---- a list without items

abbrev pub is_empty : {A : Type 0} → List A → Bool
is_empty [] = true
is_empty (x ∷ xs) = false

length_empty : {A : Type 0} (xs : List A) → (length xs == 0) ≡ is_empty xs
length_empty [] = refl
length_empty (x ∷ xs) = by (length (x ∷ xs) == 0) refl
  where
    by : (b : Bool) → (length (x ∷ xs) == 0) ≡ b → (length (x ∷ xs) == 0) ≡ false
    by true e =
        let same : suc (length xs) ≡ 0 = eqb-true (suc (length xs)) 0 e in
        let no : ⊥ = omega (arith, same) in
        absurd no
    by false e = e

nothing_empty : {A : Type 0} (f : A → Tree) (xs : List A) → is_empty xs ≡ is_nothing optional (list_tree f xs)
nothing_empty f [] = refl
nothing_empty f (x ∷ xs) = refl

pub nothing : {A : Type 0} (f : A → Tree) (xs : List A) → (length xs == 0) ≡ is_nothing optional (list_tree f xs)
nothing f xs = length_empty xs ∙ nothing_empty f xs

tools_empty : {A : Type 0} (f : A → Tree) (xs : List A) → not (is_empty xs) ≡ comes_as_list a_tools (each f xs)
tools_empty f [] = refl
tools_empty f (x ∷ xs) = refl

pub tools_there : {A : Type 0} (f : A → Tree) (xs : List A) → not (length xs == 0) ≡ comes_as_list a_tools (each f xs)
tools_there f xs = ap not (length_empty xs) ∙ tools_empty f xs
