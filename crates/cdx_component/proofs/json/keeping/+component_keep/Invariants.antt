use Rattle.std.proofs.Common.{◌≡◌, map, take}
use Rattle.cdx_models.specs.Trees.{component}
use Rattle.cdx_schema.specs.Kinds.{a_record}
use Rattle.cdx_schema.specs.Keeping.{kept}
use Rattle.cdx_component.specs.Trees.{component_tree, component_items}
use Rattle.cdx_component.proofs.json.keeping.+component_keep.Given as goal

abbrev pub invariant-keep_components-loop-item : goal.invariant-keep_components-loop-item
invariant-keep_components-loop-item l = map component_tree (component_items l.copies) ≡ map (λ x. kept l.keeping.version l.keeping.label (component_tree x) (a_record component)) (take l.item-index l.item-items)
