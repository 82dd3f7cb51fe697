use Rattle.std.proofs.Common.{refl}
use Rattle.std.specs.Prelude.{codes}
use Rattle.cdx_schema.specs.Kinds.{member}
use Rattle.cdx_schema.specs.Table.{rows}
use Rattle.cdx_leaf.proofs.Attributes.{text_first}
use Rattle.cdx_service_data.proofs.xml.reading.DataClassificationTextRecord.begin.Goals as goal

pub returns : goal.returns
unfolding rows
returns c = text_first c.args.opened.now.attributes.now c.args.opened.now.version c.args.opened.now.element.now.local_name c.args.opened.now.place (codes "flow") (member (codes "flow")) _ refl _ c.required_attribute.result c.required_attribute.ensures
