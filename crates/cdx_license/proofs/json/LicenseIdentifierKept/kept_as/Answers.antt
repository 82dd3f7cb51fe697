use Rattle.std.proofs.Common.{ap, ◌∙◌}
use Rattle.cdx_models.specs.Trees.{spdx_id, license_name, text, fields, one}
use Rattle.cdx_license.proofs.Licensed.{spdx_kept, name_kept}
use Rattle.cdx_license.proofs.json.LicenseIdentifierKept.kept_as.Goals as goal

pub returns-in_ok-kept_as-in-SpdxId : goal.returns-in_ok-kept_as-in-SpdxId
returns-in_ok-kept_as-in-SpdxId c = rw c.in-SpdxId.is (ap (λ t. fields spdx_id (one t)) c.in_ok-kept_as-in-SpdxId.ensures ∙ spdx_kept c.args.keeping.version c.args.keeping.label (text c.in-SpdxId.held))

pub returns-in_ok-kept_as-in-Name : goal.returns-in_ok-kept_as-in-Name
returns-in_ok-kept_as-in-Name c = rw c.in-Name.is (ap (λ t. fields license_name (one t)) c.in_ok-kept_as-in-Name.ensures ∙ name_kept c.args.keeping.version c.args.keeping.label (text c.in-Name.held))
