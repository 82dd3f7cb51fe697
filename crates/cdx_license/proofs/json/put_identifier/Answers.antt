use Rattle.std.proofs.Common.{◌∙◌}
use Rattle.cdx_json.specs.Spellings.{spelling_members}
use Rattle.cdx_json.proofs.Spelled.{on_ok}
use Rattle.cdx_license.proofs.Licensed.{spdx_put, name_put}
use Rattle.cdx_license.proofs.json.put_identifier.Goals as goal

pub returns-in-SpdxId : goal.returns-in-SpdxId
returns-in-SpdxId c = rw c.in-SpdxId.is (on_ok c.put_required.result (λ e. e ∙ spdx_put c.args.target.version c.in-SpdxId.id (spelling_members c.args.map.now.items)) c.put_required.ensures)

pub returns-in-Name : goal.returns-in-Name
returns-in-Name c = rw c.in-Name.is (on_ok c.put_required-in-Name.result (λ e. e ∙ name_put c.args.target.version c.in-Name.name (spelling_members c.args.map.now.items)) c.put_required-in-Name.ensures)
