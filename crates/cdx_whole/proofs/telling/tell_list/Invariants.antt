use Rattle.cdx_whole.proofs.Lists.{ToldTo}
use Rattle.cdx_whole.proofs.telling.tell_list.Given as goal

abbrev pub invariant-loop-item : goal.invariant-loop-item
invariant-loop-item g l = ToldTo g.T.HasTree.tree g.T.Kinded.kind l.item-items l.item-index
