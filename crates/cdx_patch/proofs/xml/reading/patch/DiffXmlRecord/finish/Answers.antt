use Rattle.std.proofs.Common.{refl}
use Rattle.cdx_schema.specs.Table.{rows}
use Rattle.cdx_schema.specs.XmlReading.{ended}
use Rattle.cdx_patch.proofs.xml.reading.patch.DiffXmlRecord.finish.Goals as goal

pub returns : goal.returns
unfolding rows ended
returns c = refl
