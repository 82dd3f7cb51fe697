use Rattle.std.proofs.Common.{arith}
use Rattle.cdx_service_data.proofs.DataEntries.{classified_all}
use Rattle.cdx_service_data.proofs.service.classifications.Goals as goal

pub returns : goal.returns
returns c = classified_all c.loop-item.copies c.as_slice-item-items.result.now c.args.held.now c.loop-item.item-index c.as_slice-item-items.ensures (omega arith) c.loop-item.invariant
