use Rattle.std.proofs.Common.{◌≡◌, ◌++◌}
use Rattle.cdx_models.specs.Trees.{component}
use Rattle.cdx_schema.specs.Kinds.{a_record, a_list, components}
use Rattle.cdx_component.specs.Trees.{component_tree, components_tree}
use Rattle.cdx_inventory.specs.Entries.{all_told}
use Rattle.cdx_inventory.specs.Listing.{listed_in}
use Rattle.cdx_inventory.specs.Walks.{entries_below}
use Rattle.cdx_inventory.proofs.Walks.{Remains}
use Rattle.cdx_inventory.proofs.listing.+listing.Given as goal

-- the path is where the walk began, and what is listed and what is still to be listed are the whole
abbrev pub invariant-list_components-loop-i : goal.invariant-list_components-loop-i
invariant-list_components-loop-i l = (l.path.items ≡ l.initial.path.items)
    × Remains component_tree (a_record component) l.initial.path.items l.item-items l.i l.entries (all_told l.initial.entries ++ entries_below l.initial.path.items (listed_in (components_tree l.held) (a_list components)))
