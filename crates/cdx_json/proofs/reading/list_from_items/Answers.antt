use Rattle.std.proofs.Common.{arith, ap, Ok}
use Rattle.cdx_models.specs.Trees.{items}
use Rattle.cdx_schema.specs.Results.{◌>>=◌}
use Rattle.cdx_json.proofs.Loops.{reading_items, goes_on, stops, ends}
use Rattle.cdx_json.proofs.reading.list_from_items.Goals as goal

pub returns-in-Err : goal.returns-in-Err
returns-in-Err g c = stops (reading_items g.T.HasTree.tree g.T.Kinded.kind c.args.context c.args.items.now.items c.deref-item-items.result.now c.loop-i.held c.loop-i.i) c.item-item.result c.in-Err.e c.at_item.result c.loop-i-test.true c.item-item.is c.in-Err.ensures c.at_item.ensures c.loop-i.invariant

pub loop-i-preserved : goal.loop-i-preserved
loop-i-preserved g c = rw c.in_ok-push-in-Ok.ensures.ok (goes_on (reading_items g.T.HasTree.tree g.T.Kinded.kind c.args.context c.args.items.now.items c.deref-item-items.result.now c.loop-i.held c.loop-i.i) c.item-item.result c.in-Ok.one c.loop-i-test.true c.item-item.is c.in-Ok.ensures c.loop-i.invariant)

pub returns : goal.returns
returns g c = ap (λ r. r >>= λ ts. Ok (items ts)) (ends (reading_items g.T.HasTree.tree g.T.Kinded.kind c.args.context c.args.items.now.items c.deref-item-items.result.now c.loop-i.held c.loop-i.i) (omega arith) c.loop-i.invariant)
