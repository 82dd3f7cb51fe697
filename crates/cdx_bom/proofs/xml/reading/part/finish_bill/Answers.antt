use Rattle.cdx_bom.proofs.BillWhole.{whole_end}
use Rattle.cdx_bom.proofs.xml.reading.part.finish_bill.Goals as goal

pub returns : goal.returns
returns c = whole_end c.args.part c.assemble.result c.assemble.ensures
