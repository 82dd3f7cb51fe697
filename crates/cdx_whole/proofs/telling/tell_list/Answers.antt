use Rattle.std.proofs.Common.{arith}
use Rattle.cdx_whole.proofs.Lists.{none_told, one_more_told, all_told}
use Rattle.cdx_whole.proofs.telling.tell_list.Goals as goal

pub loop-item-init : goal.loop-item-init
loop-item-init g c = none_told g.T.HasTree.tree g.T.Kinded.kind c.as_slice-item-items.result.now

pub loop-item-preserved : goal.loop-item-preserved
loop-item-preserved g c =
    one_more_told g.T.HasTree.tree g.T.Kinded.kind c.as_slice-item-items.result.now c.loop-item.item-index c.item-item.result c.loop-item-test.true c.item-item.is c.tell.ensures c.loop-item.invariant

pub returns : goal.returns
returns g c =
    all_told g.T.HasTree.tree g.T.Kinded.kind c.as_slice-item-items.result.now c.args.items.now c.loop-item.item-index (omega arith) c.as_slice-item-items.ensures c.loop-item.invariant
