use Rattle.cdx_bom.proofs.BillWhole.{refused}
use Rattle.cdx_bom.proofs.xml.reading.whole.read_document.Goals as goal

pub returns-clause-faults : goal.returns-clause-faults
returns-clause-faults c = refused c.read_fed.result c.read_fed.ensures.faults
