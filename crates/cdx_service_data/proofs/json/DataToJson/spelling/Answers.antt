use Rattle.std.proofs.Common.{◌∙◌, refl}
use Rattle.cdx_schema.specs.Kinds.{classifications, flows}
use Rattle.cdx_schema.specs.Table.{list}
use Rattle.cdx_json.proofs.Spelled.{if_ok}
use Rattle.cdx_service_data.proofs.DataEntries.{classifications_spelled, flows_spelled, early_spelled}
use Rattle.cdx_service_data.proofs.json.DataToJson.spelling.Goals as goal

pub returns-in-Classification : goal.returns-in-Classification
unfolding list
returns-in-Classification c = rw c.in-Classification.is (if_ok c.list_spelling.result (λ v e. e ∙ classifications_spelled c.args.version c.in-Classification.held) (c.list_spelling.ensures classifications refl))

pub returns-then-is_known_to : goal.returns-then-is_known_to
unfolding list
returns-then-is_known_to c =
    rw c.in-ServiceData.is (if_ok c.list_spelling-then-is_known_to.result (λ v e. e ∙ flows_spelled c.is_known_to.result c.args.version c.in-ServiceData.held c.is_known_to.ensures c.if-is_known_to.true) (c.list_spelling-then-is_known_to.ensures flows refl))

pub returns-else-is_known_to : goal.returns-else-is_known_to
returns-else-is_known_to c =
    rw c.in-ServiceData.is (if_ok c.early_spelling.result (λ v e. e ∙ early_spelled c.is_known_to.result c.args.version c.in-ServiceData.held c.is_known_to.ensures c.if-is_known_to.false) c.early_spelling.ensures)
