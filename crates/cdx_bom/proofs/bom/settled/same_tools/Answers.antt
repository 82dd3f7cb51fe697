use Rattle.std.proofs.Common.{◌∙◌}
use Rattle.cdx_models.specs.Equal.{equal}
use Rattle.cdx_schema.specs.Kinds.{a_tools}
use Rattle.cdx_schema.specs.Trips.{settled}
use Rattle.cdx_nest.specs.Trees.{object_tree}
use Rattle.cdx_bom.proofs.Nested.{then_both, else_neither}
use Rattle.cdx_bom.proofs.Settled.{tool_lists, tool_objects}
use Rattle.cdx_bom.proofs.bom.settled.same_tools.Goals as goal

pub returns-in-List-List : goal.returns-in-List-List
returns-in-List-List c = rw (c.in-List-List.is-0, c.in-List-List.is-1) (c.agrees.ensures ∙ tool_lists c.in-List-List.one c.in-List-List.other)

pub returns-then-equal_row : goal.returns-then-equal_row
returns-then-equal_row c =
    rw (c.in-Object-Object.is-0, c.in-Object-Object.is-1) (then_both c.equal_row.result c.equal_row-then-equal_row.result _ _ (equal (settled (object_tree c.in-Object-Object.services c.in-Object-Object.components) a_tools) (settled (object_tree c.in-Object-Object.other_services c.in-Object-Object.other_components) a_tools))
    (tool_objects c.in-Object-Object.services c.in-Object-Object.other_services c.in-Object-Object.components c.in-Object-Object.other_components) c.equal_row.ensures c.if-equal_row.true c.equal_row-then-equal_row.ensures)

pub returns-else-equal_row : goal.returns-else-equal_row
returns-else-equal_row c =
    rw (c.in-Object-Object.is-0, c.in-Object-Object.is-1) (else_neither c.equal_row.result _ _ (equal (settled (object_tree c.in-Object-Object.services c.in-Object-Object.components) a_tools) (settled (object_tree c.in-Object-Object.other_services c.in-Object-Object.other_components) a_tools))
    (tool_objects c.in-Object-Object.services c.in-Object-Object.other_services c.in-Object-Object.components c.in-Object-Object.other_components) c.equal_row.ensures c.if-equal_row.false)
