use Rattle.cdx_write.proofs.Hollow.{entity_hollow}
use Rattle.cdx_write.proofs.organization.OrganizationalEntityFilled.is_hollow.Goals as goal

pub returns : goal.returns
returns c = entity_hollow _ _ _ _ c.has_content.result c.has_content.ensures
