-- What is made of each tree of a list.
use Rattle.cdx_models.specs.Trees.{Tree, Trees, none, more}

abbrev pub over : (Tree → Tree) → Trees → Trees
over g none = none
over g (more t ts) = more (g t) (over g ts)
