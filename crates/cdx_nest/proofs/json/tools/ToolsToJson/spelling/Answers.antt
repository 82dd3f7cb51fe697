use Rattle.std.proofs.Common.{refl, ◌∙◌}
use Rattle.cdx_models.specs.Trees.{each}
use Rattle.cdx_models.specs.Records.{tool_tree}
use Rattle.cdx_schema.specs.Kinds.{tool_list}
use Rattle.cdx_schema.specs.Table.{list}
use Rattle.cdx_json.proofs.Spelled.{if_ok}
use Rattle.cdx_nest.proofs.ToolValues.{list_spelled}
use Rattle.cdx_nest.proofs.json.tools.ToolsToJson.spelling.Goals as goal

pub returns-in-List : goal.returns-in-List
unfolding list
returns-in-List c = rw c.in-List.is (if_ok c.list_spelling.result (λ v e. e ∙ list_spelled c.args.version (each tool_tree c.in-List.held)) (c.list_spelling.ensures tool_list refl))
