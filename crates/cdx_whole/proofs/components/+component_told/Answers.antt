use Rattle.std.proofs.Common.{inl, inr, refl, sym, subst, arith}
use Rattle.cdx_models.specs.Trees.{component, pedigree, Tree}
use Rattle.cdx_schema.specs.Kinds.{components, a_list, a_record}
use Rattle.cdx_schema.specs.Table.{rows, list}
use Rattle.cdx_schema.specs.Membership.{IsOf}
use Rattle.cdx_component.specs.Trees.{component_tree, component_items}
use Rattle.cdx_component.specs.Laws.{components_tree-out, pedigree_tree-out}
use Rattle.cdx_whole.proofs.Lists.{none_told, one_more_told, all_told}
use Rattle.cdx_whole.proofs.Joined.{component_joined}
use Rattle.cdx_whole.proofs.components.+component_told.Goals as goal

pub tell_contents-returns : goal.tell_contents-returns
unfolding rows
tell_contents-returns t c = (c.tell_pedigree_row.ensures, (c.tell_row.ensures, (c.tell_row-2.ensures, (c.tell_components_row.ensures, (c.tell_row-3.ensures, (c.tell_row-4.ensures, tt))))))

pub tell_component-returns : goal.tell_component-returns
tell_component-returns t c = component_joined c.args.held.now c.tell_origin.ensures c.tell_naming.ensures c.tell_marks.ensures c.tell_contents.ensures

pub tell_pedigree-returns : goal.tell_pedigree-returns
unfolding rows
tell_pedigree-returns t c =
    let P : Tree → Type 0 = λ x. IsOf x (a_record pedigree) in
    subst P (sym (pedigree_tree-out c.args.held.now)) (refl, (c.tell_components_row.ensures, (c.tell_components_row-2.ensures, (c.tell_components_row-3.ensures, (c.tell_row.ensures, (c.tell_row-2.ensures, (c.tell_row-3.ensures, tt)))))))

pub tell_components-loop-item-init : goal.tell_components-loop-item-init
tell_components-loop-item-init t c = none_told component_tree (a_record component) c.as_slice-item-items.result.now

pub tell_components-loop-item-preserved : goal.tell_components-loop-item-preserved
tell_components-loop-item-preserved t c =
    one_more_told component_tree (a_record component) c.as_slice-item-items.result.now c.loop-item.item-index c.item-item.result c.loop-item-test.true c.item-item.is c.tell_component.ensures c.loop-item.invariant

pub tell_components-returns : goal.tell_components-returns
unfolding list
tell_components-returns t c =
    let P : Tree → Type 0 = λ x. IsOf x (a_list components) in
    subst P (sym (components_tree-out c.args.held.now)) (tt, all_told component_tree (a_record component) c.as_slice-item-items.result.now (component_items c.args.held.now) c.loop-item.item-index (omega arith) c.as_slice-item-items.ensures c.loop-item.invariant)

pub tell_pedigree_row-returns-in-None : goal.tell_pedigree_row-returns-in-None
tell_pedigree_row-returns-in-None t c = rw c.in-None.is (inl (refl, refl))

pub tell_pedigree_row-returns-in-Some : goal.tell_pedigree_row-returns-in-Some
tell_pedigree_row-returns-in-Some t c = rw c.in-Some.is (inr c.tell_pedigree.ensures)

pub tell_components_row-returns-in-None : goal.tell_components_row-returns-in-None
tell_components_row-returns-in-None t c = rw c.in-None.is (inl (refl, refl))

pub tell_components_row-returns-in-Some : goal.tell_components_row-returns-in-Some
tell_components_row-returns-in-Some t c = rw c.in-Some.is (inr c.tell_components.ensures)
