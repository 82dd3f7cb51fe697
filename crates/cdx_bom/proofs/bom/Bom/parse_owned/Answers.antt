use Rattle.std.proofs.Common.{sym, ap, subst, ◌∙◌}
use Rattle.serde_json.specs.View.{view}
use Rattle.serde_json.proofs.Views.{view-Object}
use Rattle.cdx_schema.specs.JsonReading.{json_denotes}
use Rattle.cdx_json.specs.Gives.{Gives}
use Rattle.cdx_bom.specs.Trees.{bom_tree}
use Rattle.cdx_bom.proofs.bom.Bom.parse_owned.Goals as goal

pub returns-in-Object : goal.returns-in-Object
returns-in-Object c = subst (λ d. Gives bom_tree c.bill_from_owned.result (json_denotes d c.args.version)) (sym (ap view c.in-Object.is ∙ view-Object c.in-Object.map)) c.bill_from_owned.ensures
