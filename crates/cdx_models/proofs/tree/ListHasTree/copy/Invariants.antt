use Rattle.std.proofs.Common.{◌≡◌, map, take}
use Rattle.cdx_models.proofs.tree.ListHasTree.copy.Given as goal

abbrev pub invariant-loop-item : goal.invariant-loop-item
invariant-loop-item g l = map g.T.HasTree.tree l.copies ≡ map g.T.HasTree.tree (take l.item-index l.item-items)
