use Rattle.std.proofs.Common.{◌≡◌, drop}
use Rattle.cdx_models.specs.Equal.{equal_each}
use Rattle.cdx_models.specs.Trees.{each}
use Rattle.cdx_models.proofs.tree.ListHasTree.agrees.Given as goal

abbrev pub invariant-loop-i : goal.invariant-loop-i
invariant-loop-i g l =
    equal_each (each g.T.HasTree.tree (drop l.i l.one)) (each g.T.HasTree.tree (drop l.i l.other)) ≡ equal_each (each g.T.HasTree.tree l.one) (each g.T.HasTree.tree l.other)
