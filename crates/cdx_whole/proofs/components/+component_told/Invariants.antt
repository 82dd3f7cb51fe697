use Rattle.cdx_models.specs.Trees.{component}
use Rattle.cdx_schema.specs.Kinds.{a_record}
use Rattle.cdx_component.specs.Trees.{component_tree}
use Rattle.cdx_whole.proofs.Lists.{ToldTo}
use Rattle.cdx_whole.proofs.components.+component_told.Given as goal

abbrev pub invariant-tell_components-loop-item : goal.invariant-tell_components-loop-item
invariant-tell_components-loop-item l = ToldTo component_tree (a_record component) l.item-items l.item-index
