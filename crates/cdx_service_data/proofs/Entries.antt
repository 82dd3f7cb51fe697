-- Lists whose trees are compared one by one, each side seen in its own way, and entries of lists of flows.
use Rattle.std.proofs.Common.{◌≡◌, ℕ, suc, ◌+◌, ◌<◌, ◌≤◌, Bool, true, false, ◌&&◌, List, [], ◌∷◌, length, drop, get_or, refl, sym, ap, ◌∙◌}
use Rattle.std.proofs.lemmas.List.{at_drop_more, at_drop_all}
use Rattle.cdx_models.specs.Trees.{Tree, items, Trees, none, more, each, list_tree}
use Rattle.cdx_models.specs.Equal.{equal, equal_each}
use Rattle.cdx_service_data.specs.Entries.{over}

and_false : (a b : Bool) → b ≡ false → (a && b) ≡ false
and_false true b e = e
and_false false b e = refl

pub equal_each-lengths : {A B : Type 0} (f : A → Tree) (g : B → Tree) (xs : List A) (ys : List B) → (length xs ≡ length ys → ⊥) → equal_each (each f xs) (each g ys) ≡ false
equal_each-lengths f g [] [] h = absurd (h refl)
equal_each-lengths f g [] (y ∷ ys) h = refl
equal_each-lengths f g (x ∷ xs) [] h = refl
equal_each-lengths f g (x ∷ xs) (y ∷ ys) h = and_false (equal (f x) (g y)) _ (equal_each-lengths f g xs ys (λ e. h (ap suc e)))

equal_each-step : {A B : Type 0} (f : A → Tree) (g : B → Tree) (xs : List A) (ys : List B) (i : ℕ) (x : A) (y : B) → i < length xs → i < length ys → x ≡ get_or xs i x → y ≡ get_or ys i y
    → equal_each (each f (drop i xs)) (each g (drop i ys)) ≡ (equal (f x) (g y) && equal_each (each f (drop (i + 1) xs)) (each g (drop (i + 1) ys)))
equal_each-step f g xs ys i x y h k p q =
    at_drop_more (λ zs. equal_each (each f zs) (each g (drop i ys))) xs i x h
    ∙ ap (λ z. equal_each (more (f z) (each f (drop (i + 1) xs))) (each g (drop i ys))) (sym p)
    ∙ at_drop_more (λ zs. equal_each (more (f x) (each f (drop (i + 1) xs))) (each g zs)) ys i y k
    ∙ ap (λ z. equal (f x) (g z) && equal_each (each f (drop (i + 1) xs)) (each g (drop (i + 1) ys))) (sym q)

pub equal_each-goes : {A B : Type 0} (f : A → Tree) (g : B → Tree) (xs : List A) (ys : List B) (i : ℕ) (x : A) (y : B) (b : Bool) → i < length xs → i < length ys → x ≡ get_or xs i x → y ≡ get_or ys i y → equal (f x) (g y) ≡ true
    → equal_each (each f (drop i xs)) (each g (drop i ys)) ≡ b → equal_each (each f (drop (i + 1) xs)) (each g (drop (i + 1) ys)) ≡ b
equal_each-goes f g xs ys i x y b h k p q e inv = rw (equal_each-step f g xs ys i x y h k p q, e) at inv

pub equal_each-stops : {A B : Type 0} (f : A → Tree) (g : B → Tree) (xs : List A) (ys : List B) (i : ℕ) (x : A) (y : B) (b : Bool) → i < length xs → i < length ys → x ≡ get_or xs i x → y ≡ get_or ys i y → equal (f x) (g y) ≡ false
    → equal_each (each f (drop i xs)) (each g (drop i ys)) ≡ b → false ≡ b
equal_each-stops f g xs ys i x y b h k p q e inv = rw (equal_each-step f g xs ys i x y h k p q, e) at inv

pub equal_each-ends : {A B : Type 0} (f : A → Tree) (g : B → Tree) (xs : List A) (ys : List B) (i : ℕ) (b : Bool) → length xs ≤ i → length ys ≤ i → equal_each (each f (drop i xs)) (each g (drop i ys)) ≡ b → true ≡ b
equal_each-ends f g xs ys i b h k inv =
    sym (at_drop_all (λ zs. equal_each (each f zs) (each g (drop i ys))) xs i h ∙ at_drop_all (λ zs. equal_each none (each g zs)) ys i k) ∙ inv

-- ---- what is made of each tree

pub over-each : {A : Type 0} (g : Tree → Tree) (f : A → Tree) (xs : List A) → over g (each f xs) ≡ each (λ x. g (f x)) xs
over-each g f [] = refl
over-each g f (x ∷ xs) = ap (more (g (f x))) (over-each g f xs)

abbrev pub held : Tree → Trees
held (items ts) = ts
held _ = none

-- where the trees are equal, so is what is made of them
pub over-equal : {A : Type 0} (g : Tree → Tree) (f : A → Tree) (xs ys : List A) → list_tree f xs ≡ list_tree f ys → list_tree (λ x. g (f x)) xs ≡ list_tree (λ x. g (f x)) ys
over-equal g f xs ys e = ap items (sym (over-each g f xs) ∙ ap (λ t. over g (held t)) e ∙ over-each g f ys)
