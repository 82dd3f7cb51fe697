use Rattle.std.proofs.Common.{ap, ◌∙◌, codes}
use Rattle.serde_json.specs.Data.{object}
use Rattle.cdx_json.specs.Spellings.{spelling_members}
use Rattle.cdx_json.proofs.Setting.{spelling_data-Object}
use Rattle.cdx_models.specs.Trees.{license, fields_of}
use Rattle.cdx_license.specs.Records.{license_tree, expression_tree}
use Rattle.cdx_schema.specs.Kinds.{a_record}
use Rattle.cdx_json.specs.KeptRows.{put_kept}
use Rattle.cdx_json.proofs.Spelled.{if_ok}
use Rattle.cdx_license.proofs.Licensed.{license_spelled, expression_spelled}
use Rattle.cdx_license.proofs.json.LicenseChoiceToJson.spelling.Goals as goal

pub returns-in_ok-put_required-in-License : goal.returns-in_ok-put_required-in-License
returns-in_ok-put_required-in-License c =
    rw c.in-License.is (spelling_data-Object c.put_required.new.map ∙ ap object (c.in_ok-put_required-in-License.ensures ∙ ap (λ es. put_kept (codes "license") (a_record license) (license_tree c.in-License.held) c.args.version (spelling_members es)) c.new-map.ensures.items)
    ∙ license_spelled c.args.version (fields_of (license_tree c.in-License.held)))

pub returns-in-Expression : goal.returns-in-Expression
returns-in-Expression c = rw c.in-Expression.is (if_ok c.spelling.result (λ v e. e ∙ expression_spelled c.args.version (fields_of (expression_tree c.in-Expression.held))) c.spelling.ensures)
