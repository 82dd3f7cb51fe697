use Rattle.std.proofs.Common.{[], ◌∷◌, ◌++◌, codes, refl, sym, ap, ◌∙◌, arith}
use Rattle.cdx_models.specs.Trees.{component, pedigree, present, each}
use Rattle.cdx_schema.specs.Kinds.{a_record, a_list, components}
use Rattle.cdx_schema.specs.Faults.{to_member, to_item}
use Rattle.cdx_component.specs.declared.component.Component.TheViews.{out-Component, out-Pedigree}
use Rattle.cdx_component.specs.Trees.{component_tree, components_tree, pedigree_tree}
use Rattle.cdx_ways.specs.Ways.{behind_step}
use Rattle.cdx_inventory.specs.Listing.{listed_in, items_listed}
use Rattle.cdx_inventory.specs.Entries.{entry, all_told}
use Rattle.cdx_inventory.specs.Walks.{entries_below}
use Rattle.cdx_inventory.proofs.Walks.{component_listed, pedigree_listed, components_listed, adds_same, adds_both, adds_one, adds_end, adds_absent, adds_row, remains_next, remains_none}
use Rattle.cdx_inventory.proofs.listing.+listing.Goals as goal
use Rattle.cdx_ways.proofs.Lists.{cut_back}

pub list_component-returns : goal.list_component-returns
list_component-returns t c =
    let x = c.args.held.now in
    let before = behind_step (to_member (codes "pedigree")) (listed_in (present pedigree_tree (out-Component x).pedigree) (a_record pedigree)) in
    let after = behind_step (to_member (codes "components")) (listed_in (present components_tree (out-Component x).components) (a_list components)) in
    let p = c.args.path.now.items in
    let q = c.list_pedigree_row.new.path.items in
    let r = c.list_components_row.new.path.items in
    let e = c.args.entries.now in
    let f = c.push.new.self in
    let g = c.list_pedigree_row.new.entries in
    let h = c.list_components_row.new.entries in
    adds_same (([], component_tree x) ∷ (before ++ after)) (listed_in (component_tree x) (a_record component)) p r e h (component_listed x)
    (adds_both (([], component_tree x) ∷ []) (before ++ after) p p r e f h
    (adds_one (component_tree x) p e f c.in_ok-entry.entry c.in_ok-push.ensures.ok (c.in_ok-entry.ensures ∙ ap (λ s. entry (s, component_tree x)) c.as_slice.ensures.value))
    (adds_both before after p q r f g h c.in_ok-list_pedigree_row.ensures c.in_ok-list_components_row.ensures))

pub list_pedigree-returns : goal.list_pedigree-returns
list_pedigree-returns t c =
    let x = out-Pedigree c.args.held.now in
    let first = behind_step (to_member (codes "ancestors")) (listed_in (present components_tree x.ancestors) (a_list components)) in
    let second = behind_step (to_member (codes "descendants")) (listed_in (present components_tree x.descendants) (a_list components)) in
    let third = behind_step (to_member (codes "variants")) (listed_in (present components_tree x.variants) (a_list components)) in
    let p = c.args.path.now.items in
    let q = c.list_components_row.new.path.items in
    let r = c.list_components_row-2.new.path.items in
    let s = c.list_components_row-3.new.path.items in
    let e = c.args.entries.now in
    let f = c.list_components_row.new.entries in
    let g = c.list_components_row-2.new.entries in
    let h = c.list_components_row-3.new.entries in
    adds_same (first ++ (second ++ (third ++ []))) (listed_in (pedigree_tree c.args.held.now) (a_record pedigree)) p s e h (pedigree_listed c.args.held.now)
    (adds_both first (second ++ (third ++ [])) p q s e f h c.in_ok-list_components_row.ensures
    (adds_both second (third ++ []) q r s f g h c.in_ok-list_components_row-2.ensures
    (adds_end third r s g h c.in_ok-list_components_row-3.ensures)))

pub list_pedigree_row-returns-in-None : goal.list_pedigree_row-returns-in-None
list_pedigree_row-returns-in-None t c = adds_absent pedigree_tree (a_record pedigree) (to_member (codes "pedigree")) c.args.held.now c.args.path.now.items c.args.entries.now c.in-None.is

pub list_pedigree_row-returns-in_ok-list_pedigree-in-Some : goal.list_pedigree_row-returns-in_ok-list_pedigree-in-Some
list_pedigree_row-returns-in_ok-list_pedigree-in-Some t c =
    adds_row pedigree_tree (a_record pedigree) (to_member (codes "pedigree")) c.in-Some.held c.args.held.now c.args.path.now.items c.enter_member.new.path.items c.list_pedigree.new.path.items c.leave.new.path.items c.steps_in-depth.result c.args.entries.now c.list_pedigree.new.entries
    c.in-Some.is c.in_ok-enter_member-in-Some.ensures c.steps_in-depth.ensures c.leave.ensures c.in_ok-list_pedigree-in-Some.ensures

pub list_components_row-returns-in-None : goal.list_components_row-returns-in-None
list_components_row-returns-in-None t c = adds_absent components_tree (a_list components) (to_member c.args.name.now) c.args.held.now c.args.path.now.items c.args.entries.now c.in-None.is

pub list_components_row-returns-in_ok-list_components-in-Some : goal.list_components_row-returns-in_ok-list_components-in-Some
list_components_row-returns-in_ok-list_components-in-Some t c =
    adds_row components_tree (a_list components) (to_member c.args.name.now) c.in-Some.held c.args.held.now c.args.path.now.items c.enter_member.new.path.items c.list_components.new.path.items c.leave.new.path.items c.steps_in-depth.result c.args.entries.now c.list_components.new.entries
    c.in-Some.is c.in_ok-enter_member-in-Some.ensures c.steps_in-depth.ensures c.leave.ensures c.in_ok-list_components-in-Some.ensures

pub list_components-loop-i-init : goal.list_components-loop-i-init
list_components-loop-i-init t c = (
  refl,
  ap (λ xs. all_told c.args.entries.now ++ entries_below c.args.path.now.items (items_listed (each component_tree xs) (a_record component) 0)) c.as_slice-item-items.ensures
      ∙ ap (λ xs. all_told c.args.entries.now ++ entries_below c.args.path.now.items xs) (sym (components_listed c.args.held.now)),
)

pub list_components-loop-i-preserved : goal.list_components-loop-i-preserved
list_components-loop-i-preserved t c =
    let p = c.args.path.now.items in
    let x = c.item-item.result in
    let i = c.loop-i.i in
    let entered = c.in_ok-enter_item.ensures ∙ ap (λ z. z ++ to_item i ∷ []) c.loop-i.invariant.0 in
    let listed = c.in_ok-list_component.ensures in (
      cut_back p c.enter_item.new.path.items c.list_component.new.path.items c.leave.new.path.items (to_item i) c.steps_in-depth.result entered listed.0 c.steps_in-depth.ensures c.leave.ensures,
      remains_next component_tree (a_record component) p c.as_slice-item-items.result.now i x c.loop-i.entries c.list_component.new.entries _ c.loop-i-test.true c.item-item.is
          (listed.1 ∙ ap (λ z. all_told c.loop-i.entries ++ entries_below z (listed_in (component_tree x) (a_record component))) entered) c.loop-i.invariant.1,
    )

pub list_components-returns : goal.list_components-returns
list_components-returns t c = (c.loop-i.invariant.0, remains_none component_tree (a_record component) c.args.path.now.items _ c.loop-i.i c.loop-i.entries _ (omega arith) c.loop-i.invariant.1)
