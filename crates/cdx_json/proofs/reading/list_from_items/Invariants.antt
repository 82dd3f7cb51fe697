use Rattle.cdx_json.proofs.Loops.{reading_items, IsReadSoFar}
use Rattle.cdx_json.proofs.reading.list_from_items.Given as goal

abbrev pub invariant-loop-i : goal.invariant-loop-i
invariant-loop-i g l =
    IsReadSoFar (reading_items g.T.HasTree.tree g.T.Kinded.kind l.context l.items.items l.item-items l.held l.i)
