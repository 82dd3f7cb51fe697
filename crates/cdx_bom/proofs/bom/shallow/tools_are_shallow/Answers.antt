use Rattle.std.proofs.Common.{sym}
use Rattle.cdx_schema.specs.Keeping.{is_shallow}
use Rattle.cdx_schema.specs.Depths.{depth_of}
use Rattle.cdx_nest.specs.Trees.{object_tree}
use Rattle.cdx_bom.proofs.Nested.{tool_list_levels, object_levels, then_both, else_neither}
use Rattle.cdx_bom.proofs.bom.shallow.tools_are_shallow.Goals as goal

pub returns-in-List : goal.returns-in-List
returns-in-List c = rw c.in-List.is (sym (tool_list_levels c.in-List.field-0 (depth_of c.args.depth)))

pub returns-then-services_row_are_shallow : goal.returns-then-services_row_are_shallow
returns-then-services_row_are_shallow c =
    rw c.in-Object.is (then_both c.services_row_are_shallow.result c.components_row_are_shallow.result _ _ (is_shallow (object_tree c.in-Object.services c.in-Object.components) (depth_of c.args.depth)) (object_levels c.in-Object.services c.in-Object.components (depth_of c.args.depth)) c.services_row_are_shallow.ensures c.if-services_row_are_shallow.true c.components_row_are_shallow.ensures)

pub returns-else-services_row_are_shallow : goal.returns-else-services_row_are_shallow
returns-else-services_row_are_shallow c =
    rw c.in-Object.is (else_neither c.services_row_are_shallow.result _ _ (is_shallow (object_tree c.in-Object.services c.in-Object.components) (depth_of c.args.depth)) (object_levels c.in-Object.services c.in-Object.components (depth_of c.args.depth)) c.services_row_are_shallow.ensures c.if-services_row_are_shallow.false)
