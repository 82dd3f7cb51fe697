use Rattle.std.proofs.Common.{arith}
use Rattle.cdx_json.proofs.Spelled.{list_spelled}
use Rattle.cdx_json.proofs.writing.list_spelling.Goals as goal

pub returns : goal.returns
returns g c = λ l is. list_spelled g.T.HasTree.tree g.T.Kinded.kind l c.args.version c.loop-item.values c.as_slice-item-items.result.now c.args.held.now c.loop-item.item-index is c.as_slice-item-items.ensures (omega arith) c.loop-item.invariant
