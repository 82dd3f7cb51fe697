use Rattle.std.proofs.Common.{◌≡◌, ◌++◌, take}
use Rattle.std.specs.List.{flat_map}
use Rattle.cdx_write.proofs.Lists.{items_put}
use Rattle.cdx_write.proofs.list.write_items.Given as goal

abbrev pub invariant-loop-item : goal.invariant-loop-item
invariant-loop-item g l = l.writer ≡ l.fn.writer ++ flat_map (items_put g.T.HasTree.tree l.fn.tag g.T.Kinded.kind l.fn.target.version) (take l.item-index l.item-items)
