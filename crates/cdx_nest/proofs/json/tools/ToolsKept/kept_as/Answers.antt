use Rattle.std.proofs.Common.{refl, ◌∙◌}
use Rattle.cdx_models.specs.Trees.{each}
use Rattle.cdx_models.specs.Records.{tool_tree}
use Rattle.cdx_schema.specs.Kinds.{tool_list}
use Rattle.cdx_schema.specs.Table.{list}
use Rattle.cdx_nest.proofs.ToolValues.{list_kept}
use Rattle.cdx_nest.proofs.json.tools.ToolsKept.kept_as.Goals as goal

pub returns-in_ok-keep_list-in-List : goal.returns-in_ok-keep_list-in-List
unfolding list
returns-in_ok-keep_list-in-List c = rw c.in-List.is (c.in_ok-keep_list-in-List.ensures tool_list refl ∙ list_kept c.args.keeping.version c.args.keeping.label (each tool_tree c.in-List.held))
