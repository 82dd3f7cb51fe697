use Rattle.std.proofs.Common.{refl}
use Rattle.cdx_schema.specs.Table.{rows}
use Rattle.cdx_leaf.proofs.Attributes.{row_ok, rows_end}
use Rattle.cdx_component_parts.proofs.xml.reading.ComponentEvidenceXmlRecord.begin.Goals as goal

pub returns : goal.returns
unfolding rows
returns c = row_ok c.args._opened.now.attributes.now c.args._opened.now.version c.args._opened.now.element.now.local_name c.args._opened.now.place _ _ _ _ refl (row_ok c.args._opened.now.attributes.now c.args._opened.now.version c.args._opened.now.element.now.local_name c.args._opened.now.place _ _ _ _ refl (rows_end c.args._opened.now.attributes.now c.args._opened.now.version c.args._opened.now.element.now.local_name c.args._opened.now.place))
