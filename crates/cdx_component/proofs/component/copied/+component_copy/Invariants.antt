use Rattle.std.proofs.Common.{◌≡◌, map, take}
use Rattle.cdx_component.specs.Trees.{component_tree, component_items}
use Rattle.cdx_component.proofs.component.copied.+component_copy.Given as goal

abbrev pub invariant-copy_components-loop-item : goal.invariant-copy_components-loop-item
invariant-copy_components-loop-item l = map component_tree (component_items l.copies) ≡ map component_tree (take l.item-index l.item-items)
