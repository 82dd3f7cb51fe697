use Rattle.std.proofs.Common.{ap, ◌∙◌}
use Rattle.cdx_models.specs.Trees.{each, tool}
use Rattle.cdx_models.specs.Records.{tool_tree}
use Rattle.cdx_nest.specs.Trees.{object_tree, tools_tree}
use Rattle.cdx_schema.specs.Kinds.{a_record, a_tools}
use Rattle.cdx_losses.specs.Losses.{items_lost}
use Rattle.cdx_losses.specs.Walks.{value_lost}
use Rattle.cdx_losses.proofs.Walks.{ok_same}
use Rattle.cdx_losses.proofs.Values.{list_is, tools_held}
use Rattle.cdx_losses.proofs.walking.ToolsLosing.lose.Goals as goal

pub returns-in-List : goal.returns-in-List
returns-in-List c =
    ok_same c.lose_items.result (items_lost c.args.road.version c.args.road.trips (each tool_tree c.as_slice.result.now) (a_record tool) 0) (value_lost c.args.road (tools_tree c.args.self.now) a_tools) c.args.walk.now c.lose_items.new.walk (ap (λ z. value_lost c.args.road (tools_tree z) a_tools) c.in-List.is ∙ list_is tool_tree c.args.road a_tools (a_record tool) c.in-List.tools c.as_slice.result.now tools_held c.as_slice.ensures) c.lose_items.ensures

pub returns-in-Object : goal.returns-in-Object
returns-in-Object c =
    ok_same c.lose_tools_object.result (value_lost c.args.road (object_tree c.in-Object.services c.in-Object.components) a_tools) (value_lost c.args.road (tools_tree c.args.self.now) a_tools) c.args.walk.now c.lose_tools_object.new.walk (ap (λ z. value_lost c.args.road (tools_tree z) a_tools) c.in-Object.is) c.lose_tools_object.ensures
