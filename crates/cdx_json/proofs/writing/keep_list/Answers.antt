use Rattle.std.proofs.Common.{arith}
use Rattle.cdx_json.proofs.Spelled.{list_kept}
use Rattle.cdx_json.proofs.writing.keep_list.Goals as goal

pub returns : goal.returns
returns g c = λ i is. list_kept g.T.HasTree.tree g.T.Kinded.kind i c.args.keeping.version c.args.keeping.label c.loop-item.copies c.as_slice-item-items.result.now c.args.held.now c.loop-item.item-index is c.as_slice-item-items.ensures (omega arith) c.loop-item.invariant
