use Rattle.std.proofs.Common.{refl}
use Rattle.cdx_schema.specs.Table.{rows}
use Rattle.cdx_schema.specs.XmlReading.{ended}
use Rattle.cdx_component_parts.proofs.xml.reading.ComponentEvidenceXmlRecord.finish.Goals as goal

pub returns : goal.returns
unfolding rows ended
returns c = refl
