-- The trees of fields, while an element is read.
use Rattle.std.specs.Prelude.{List, [], ◌∷◌}
use Rattle.cdx_models.specs.Trees.{Tree, absent, list_tree}

-- children that were met so far
abbrev pub collected : {X : Type 0} → (X → Tree) → List X → Tree
collected f [] = absent
collected f (x ∷ xs) = list_tree f (x ∷ xs)
