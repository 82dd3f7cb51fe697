use Rattle.cdx_service.proofs.ReadGroups.{service_begins}
use Rattle.cdx_service.proofs.xml.reading.begin.begin_service.Goals as goal

pub returns : goal.returns
returns c = λ v el p. service_begins c.args.attributes.now v el p c.in_ok-attribute_or_none.field-0 c.in_ok-attribute_or_none.ensures
