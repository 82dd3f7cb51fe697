use Rattle.std.proofs.Common.{◌≡◌, drop}
use Rattle.cdx_models.specs.Trees.{component, each}
use Rattle.cdx_schema.specs.Kinds.{components, a_list, a_record}
use Rattle.cdx_schema.specs.Keeping.{has_versions, items_have_versions}
use Rattle.cdx_component.specs.Trees.{component_tree, components_tree}
use Rattle.cdx_component.proofs.component.fitting.+component_fits.Given as goal

abbrev pub invariant-components_have_versions-loop-item : goal.invariant-components_have_versions-loop-item
invariant-components_have_versions-loop-item l =
    items_have_versions (each component_tree (drop l.item-index l.item-items)) (a_record component) ≡ has_versions (components_tree l.held) (a_list components)
