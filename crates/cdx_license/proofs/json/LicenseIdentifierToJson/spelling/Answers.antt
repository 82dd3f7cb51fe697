use Rattle.std.proofs.Common.{ap, ◌∙◌}
use Rattle.serde_json.specs.Data.{object}
use Rattle.cdx_json.specs.Spellings.{spelling_members}
use Rattle.cdx_json.proofs.Setting.{spelling_data-Object}
use Rattle.cdx_license.specs.Records.{identifier_tree}
use Rattle.cdx_schema.specs.Kinds.{a_license_identifier}
use Rattle.cdx_json.specs.KeptRows.{put_own}
use Rattle.cdx_license.proofs.Licensed.{identifier_object}
use Rattle.cdx_license.proofs.json.LicenseIdentifierToJson.spelling.Goals as goal

pub returns : goal.returns
returns c =
    spelling_data-Object c.put_identifier.new.map ∙ ap object (c.in_ok-put_identifier.ensures ∙ ap (λ es. put_own a_license_identifier (identifier_tree c.args.self.now) c.args.version (spelling_members es)) c.new-map.ensures.items)
    ∙ identifier_object c.args.version c.args.self.now
