use Rattle.std.proofs.Common.{refl, arith, ap, sym, ◌∙◌}
use Rattle.cdx_models.specs.Trees.{component}
use Rattle.cdx_schema.specs.Kinds.{components, a_list, a_record}
use Rattle.cdx_schema.specs.Table.{rows, list}
use Rattle.cdx_schema.specs.Keeping.{kept}
use Rattle.cdx_json.specs.KeptRows.{rows_held}
use Rattle.cdx_json.proofs.Spelled.{list_kept}
use Rattle.cdx_component.specs.Trees.{component_tree, component_items}
use Rattle.cdx_component.specs.Laws.{components_tree-out}
use Rattle.cdx_component.proofs.Grouped.{component_kept, pedigree_kept}
use Rattle.cdx_component.proofs.json.keeping.+component_keep.Goals as goal

pub keep_component-returns : goal.keep_component-returns
keep_component-returns t c = component_kept c.args.keeping.version c.args.keeping.label _ c.args.held.now _ _ _ _ c.assemble.ensures c.in_ok-origin.ensures c.in-Ok.ensures c.in-Ok-keep_marks.ensures c.in-Ok-keep_contents.ensures

pub keep_pedigree-returns : goal.keep_pedigree-returns
unfolding rows_held rows list
keep_pedigree-returns t c = pedigree_kept c.args.keeping.version c.args.keeping.label _ c.args.held.now (rw (c.in_ok-ancestors.ensures, c.in_ok-descendants.ensures, c.in_ok-variants.ensures, c.in_ok-commits.ensures, c.in_ok-patches.ensures, c.in_ok-notes.ensures) refl)

pub keep_components-returns : goal.keep_components-returns
unfolding list
keep_components-returns t c =
    components_tree-out c.loop-item.copies ∙ list_kept component_tree (a_record component) components c.args.keeping.version c.args.keeping.label (component_items c.loop-item.copies) c.deref-item-items.result.now (component_items c.args.held.now) c.loop-item.item-index refl c.deref-item-items.ensures.value (omega arith) c.loop-item.invariant
    ∙ ap (λ u. kept c.args.keeping.version c.args.keeping.label u (a_list components)) (sym (components_tree-out c.args.held.now))

pub keep_contents-returns : goal.keep_contents-returns
unfolding rows_held rows list
keep_contents-returns t c = rw (c.in_ok-pedigree.ensures, c.in_ok-external_references.ensures, c.in_ok-properties.ensures, c.in_ok-components.ensures, c.in_ok-evidence.ensures, c.in_ok-signature.ensures) refl
