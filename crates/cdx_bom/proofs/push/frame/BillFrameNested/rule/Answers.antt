use Rattle.std.proofs.Common.{refl}
use Rattle.cdx_schema.specs.Table.{rule}
use Rattle.cdx_bom.proofs.push.frame.BillFrameNested.rule.Goals as goal

pub returns-in-Bill : goal.returns-in-Bill
unfolding rule
returns-in-Bill c = rw c.in-Bill.is refl
