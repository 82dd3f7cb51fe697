use Rattle.std.proofs.Common.{◌+◌, ◌-◌, ◌*◌}
use Rattle.cdx_schema.specs.Kinds.{a_record}
use Rattle.cdx_json.proofs.Loops.{reading_items, IsReadSoFar}
use Rattle.cdx_models.specs.Trees.{component}
use Rattle.cdx_component.specs.Trees.{component_tree, component_items}
use Rattle.cdx_component.proofs.json.reading.+component_read.Given as goal

-- Each component is one level deeper, and at most 32 stand in one another.

abbrev pub decreases-read_component : goal.decreases-read_component
decreases-read_component l = 10 * (40 - l.context.depth.components) + 0

abbrev pub decreases-components_from_items : goal.decreases-components_from_items
decreases-components_from_items l = 10 * (40 - l.context.depth.components) + 1

abbrev pub decreases-read_components : goal.decreases-read_components
decreases-read_components l = 10 * (40 - l.context.depth.components) + 2

abbrev pub decreases-read_components_row : goal.decreases-read_components_row
decreases-read_components_row l = 10 * (40 - l.context.depth.components) + 3

abbrev pub decreases-pedigree_from_members : goal.decreases-pedigree_from_members
decreases-pedigree_from_members l = 10 * (40 - l.context.depth.components) + 4

abbrev pub decreases-read_pedigree : goal.decreases-read_pedigree
decreases-read_pedigree l = 10 * (40 - l.context.depth.components) + 5

abbrev pub decreases-read_pedigree_row : goal.decreases-read_pedigree_row
decreases-read_pedigree_row l = 10 * (40 - l.context.depth.components) + 6

abbrev pub decreases-read_contents : goal.decreases-read_contents
decreases-read_contents l = 10 * (40 - l.context.depth.components) + 7

abbrev pub decreases-component_from_members : goal.decreases-component_from_members
decreases-component_from_members l = 10 * (40 - l.context.depth.components) + 8

abbrev pub invariant-components_from_items-loop-i : goal.invariant-components_from_items-loop-i
invariant-components_from_items-loop-i l =
    IsReadSoFar (reading_items component_tree (a_record component) l.context l.items.items l.item-items (component_items l.list) l.i)
