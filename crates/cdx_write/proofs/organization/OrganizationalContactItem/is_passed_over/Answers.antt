use Rattle.cdx_write.proofs.Hollow.{contact_hollow}
use Rattle.cdx_write.proofs.organization.OrganizationalContactItem.is_passed_over.Goals as goal

pub returns : goal.returns
returns c = contact_hollow _ _ _ _ c.has_content.result c.has_content.ensures
