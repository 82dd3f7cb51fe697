use Rattle.std.proofs.Common.{sym, ap, ◌∙◌, arith}
use Rattle.cdx_models.specs.Trees.{each}
use Rattle.cdx_schema.specs.Keeping.{is_shallow, are_shallow}
use Rattle.cdx_schema.specs.Depths.{depth_of}
use Rattle.cdx_nest.specs.Nested.{component_tree}
use Rattle.cdx_bom.proofs.Nested.{component_too_deep, component_levels, components_level, then_both, else_neither, from-goes, from-stops, from-end}
use Rattle.cdx_bom.proofs.bom.shallow.+components_shallow.Goals as goal

pub component_is_shallow-returns-then-depth-ge32 : goal.component_is_shallow-returns-then-depth-ge32
component_is_shallow-returns-then-depth-ge32 t c = component_too_deep c.args.component.now (depth_of c.args.depth) c.if-depth-ge32.true

pub component_is_shallow-returns-then-pedigree_row_is_shallow : goal.component_is_shallow-returns-then-pedigree_row_is_shallow
component_is_shallow-returns-then-pedigree_row_is_shallow t c =
    then_both c.pedigree_row_is_shallow.result c.components_row_are_shallow.result _ _ (is_shallow (component_tree c.args.component.now) (depth_of c.args.depth)) (component_levels c.args.component.now (depth_of c.args.depth) c.if-depth-ge32.false) c.pedigree_row_is_shallow.ensures c.if-pedigree_row_is_shallow.true c.components_row_are_shallow.ensures

pub component_is_shallow-returns-else-pedigree_row_is_shallow : goal.component_is_shallow-returns-else-pedigree_row_is_shallow
component_is_shallow-returns-else-pedigree_row_is_shallow t c =
    else_neither c.pedigree_row_is_shallow.result _ _ (is_shallow (component_tree c.args.component.now) (depth_of c.args.depth)) (component_levels c.args.component.now (depth_of c.args.depth) c.if-depth-ge32.false) c.pedigree_row_is_shallow.ensures c.if-pedigree_row_is_shallow.false

pub components_are_shallow-loop-item-init : goal.components_are_shallow-loop-item-init
components_are_shallow-loop-item-init t c = ap (λ xs. are_shallow (each component_tree xs) (depth_of c.args.depth)) c.as_slice-item-items.ensures ∙ sym (components_level c.args.components.now (depth_of c.args.depth))

pub components_are_shallow-returns-then-not-component_is_shallow : goal.components_are_shallow-returns-then-not-component_is_shallow
components_are_shallow-returns-then-not-component_is_shallow t c =
    from-stops component_tree c.as_slice-item-items.result.now c.loop-item.item-index c.item-item.result (depth_of c.args.depth) _ c.loop-item-test.true c.item-item.is (sym c.component_is_shallow.ensures ∙ c.if-not-component_is_shallow.true) c.loop-item.invariant

pub components_are_shallow-loop-item-preserved : goal.components_are_shallow-loop-item-preserved
components_are_shallow-loop-item-preserved t c =
    from-goes component_tree c.as_slice-item-items.result.now c.loop-item.item-index c.item-item.result (depth_of c.args.depth) _ c.loop-item-test.true c.item-item.is (sym c.component_is_shallow.ensures ∙ c.if-not-component_is_shallow.false) c.loop-item.invariant

pub components_are_shallow-returns : goal.components_are_shallow-returns
components_are_shallow-returns t c = sym (from-end component_tree c.as_slice-item-items.result.now c.loop-item.item-index (depth_of c.args.depth) (omega arith)) ∙ c.loop-item.invariant
