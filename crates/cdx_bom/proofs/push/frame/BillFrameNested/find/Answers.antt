use Rattle.cdx_bom.specs.Reading.{bill_slots}
use Rattle.cdx_bom.proofs.push.frame.BillFrameNested.find.Goals as goal

pub returns-in-Bill : goal.returns-in-Bill
returns-in-Bill c = rw c.in-Bill.is (c.find_in_bill.ensures (bill_slots c.in-Bill.field-0))
