use Rattle.cdx_write.proofs.Hollow.{source_hollow}
use Rattle.cdx_patch.proofs.xml.writing.issue.SourceFilled.is_hollow.Goals as goal

pub returns : goal.returns
returns c = source_hollow _ _ c.has_content.result c.has_content.ensures
