use Rattle.std.proofs.Common.{◌≡◌, drop}
use Rattle.cdx_models.specs.Trees.{each}
use Rattle.cdx_models.specs.Equal.{equal_each}
use Rattle.cdx_component.specs.Trees.{component_tree, component_items}
use Rattle.cdx_component.proofs.component.compared.+component_equal.Given as goal

abbrev pub invariant-equal_components-loop-i : goal.invariant-equal_components-loop-i
invariant-equal_components-loop-i l =
    equal_each (each component_tree (drop l.i (component_items l.one))) (each component_tree (drop l.i (component_items l.other))) ≡ equal_each (each component_tree (component_items l.one)) (each component_tree (component_items l.other))
