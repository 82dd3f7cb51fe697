-- Trees compared, one part after the other.
use Rattle.std.proofs.Common.{◌≡◌, List, ap, ◌∙◌}
use Rattle.cdx_models.specs.Trees.{Tree, list_tree, each}
use Rattle.cdx_models.specs.Equal.{equal, equal_each}

pub at_both : (a b t u : Tree) → a ≡ t → b ≡ u → equal a b ≡ equal t u
at_both a b t u e f = ap (λ x. equal x b) e ∙ ap (equal t) f

pub lists_compared : {A : Type 0} (f : A → Tree) (t u : Tree) (xs ys : List A) → t ≡ list_tree f xs → u ≡ list_tree f ys → equal t u ≡ equal_each (each f xs) (each f ys)
lists_compared f t u xs ys p q = at_both t u (list_tree f xs) (list_tree f ys) p q
