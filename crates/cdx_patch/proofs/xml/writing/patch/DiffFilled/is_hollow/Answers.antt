use Rattle.cdx_write.proofs.Hollow.{diff_hollow}
use Rattle.cdx_patch.proofs.xml.writing.patch.DiffFilled.is_hollow.Goals as goal

pub returns : goal.returns
returns c = diff_hollow _ _ c.has_content.result c.has_content.ensures
