use Rattle.cdx_write.proofs.Hollow.{evidence_hollow}
use Rattle.cdx_component_parts.proofs.xml.writing.ComponentEvidenceFilled.is_hollow.Goals as goal

pub returns : goal.returns
returns c = evidence_hollow _ _ c.has_content.result c.has_content.ensures
