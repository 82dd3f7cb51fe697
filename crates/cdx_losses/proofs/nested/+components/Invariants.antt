use Rattle.std.proofs.Common.{◌≡◌, ◌++◌}
use Rattle.cdx_models.specs.Trees.{component}
use Rattle.cdx_schema.specs.Kinds.{a_record, a_list, components}
use Rattle.cdx_component.specs.Trees.{component_tree, components_tree}
use Rattle.cdx_losses.specs.Losses.{lost}
use Rattle.cdx_losses.specs.Told.{all_told}
use Rattle.cdx_losses.specs.Walks.{below}
use Rattle.cdx_losses.proofs.Walks.{Remains}
use Rattle.cdx_losses.proofs.nested.+components.Given as goal

-- the walk stands where it began, and what was taken and what is still to be taken are the whole
abbrev pub invariant-lose_components-loop-i : goal.invariant-lose_components-loop-i
invariant-lose_components-loop-i l = (l.walk.path.items ≡ l.initial.walk.path.items)
    × Remains component_tree (a_record component) l.road l.initial.walk.path.items l.item-items l.i l.walk.losses (all_told l.initial.walk.losses ++ below l.initial.walk.path.items (lost l.road.version l.road.trips (components_tree l.held) (a_list components)))
