use Rattle.std.proofs.Common.{refl, arith, ap, sym, ◌∙◌, Ok, Some}
use Rattle.std.proofs.lemmas.Result.{err_from_is_err_and}
use Rattle.serde_json.specs.View.{view, items_view}
use Rattle.cdx_json.specs.SeenOf.{seen_of}
use Rattle.cdx_schema.specs.Table.{rows, list}
use Rattle.cdx_schema.specs.Results.{◌>>=◌}
use Rattle.cdx_json.specs.ByRows.{rows_made}
use Rattle.cdx_schema.specs.Depths.{depth_of}
use Rattle.cdx_json.proofs.Rows.{may_none, live_ok, live_err, fails_then}
use Rattle.cdx_json.proofs.Loops.{reading_items, goes_on, stops, ends}
use Rattle.cdx_models.specs.Trees.{component, pedigree, items}
use Rattle.cdx_schema.specs.Kinds.{components, a_list, a_record, optional}
use Rattle.cdx_json.proofs.Values.{list_err, list_gives, record_err, record_gives}
use Rattle.cdx_component.specs.Trees.{component_tree, components_tree, pedigree_tree, component_items}
use Rattle.cdx_component.specs.Laws.{components_tree-out, pedigree_tree-roll}
use Rattle.cdx_component.specs.Groups.{component_by_groups}
use Rattle.cdx_component.proofs.Deep.{component_deep, component_none, component_some}
use Rattle.cdx_component.proofs.json.reading.+component_read.Goals as goal

pub read_component-returns-then-context-ge32 : goal.read_component-returns-then-context-ge32
read_component-returns-then-context-ge32 t c = component_deep c.here.result (view c.args.value.now) c.args.context.version (depth_of c.args.context.depth) (omega arith) c.here.ensures

pub read_component-returns-in-None : goal.read_component-returns-in-None
read_component-returns-in-None t c = component_none c.here-in-None.result (view c.args.value.now) c.args.context.version (depth_of c.args.context.depth) c.if-context-ge32.false c.in-None.ensures c.here-in-None.ensures

pub read_component-returns-in_ok-members-in-Some : goal.read_component-returns-in_ok-members-in-Some
read_component-returns-in_ok-members-in-Some t c =
    component_some c.component_from_members.result (view c.args.value.now) (seen_of c.in_ok-members-in-Some.members.members.items) c.args.context.version (depth_of c.args.context.depth) c.if-context-ge32.false (ap Some c.in_ok-members-in-Some.ensures ∙ c.in-Some.ensures) c.component_from_members.ensures

pub component_from_members-returns-in_err-origin : goal.component_from_members-returns-in_err-origin
unfolding component_by_groups
component_from_members-returns-in_err-origin t c =
    let p = err_from_is_err_and c.from_residual.result c.from_residual.ensures.1 in
    rw (p.1, p.2) (fails_then _ _ _ c.in_err-origin.ensures)

pub component_from_members-returns-in-Err : goal.component_from_members-returns-in-Err
unfolding component_by_groups
component_from_members-returns-in-Err t c = rw (c.in_ok-origin.ensures) (fails_then _ _ _ c.in-Err.ensures)

pub component_from_members-returns-in-Err-read_marks : goal.component_from_members-returns-in-Err-read_marks
unfolding component_by_groups
component_from_members-returns-in-Err-read_marks t c = rw (c.in_ok-origin.ensures, c.in-Ok.ensures) (fails_then _ _ _ c.in-Err-read_marks.ensures)

pub component_from_members-returns-in-Err-read_contents : goal.component_from_members-returns-in-Err-read_contents
unfolding component_by_groups
component_from_members-returns-in-Err-read_contents t c = rw (c.in_ok-origin.ensures, c.in-Ok.ensures, c.in-Ok-read_marks.ensures) (fails_then _ _ _ c.in-Err-read_contents.ensures)

pub component_from_members-returns : goal.component_from_members-returns
unfolding component_by_groups
component_from_members-returns t c = rw (c.in_ok-origin.ensures, c.in-Ok.ensures, c.in-Ok-read_marks.ensures, c.in-Ok-read_contents.ensures) (ap Ok (sym c.assemble.ensures))

pub components_from_items-returns-in-Err : goal.components_from_items-returns-in-Err
components_from_items-returns-in-Err t c =
    stops (reading_items component_tree (a_record component) c.args.context c.args.items.now.items c.deref-item-items.result.now (component_items c.loop-i.list) c.loop-i.i) c.item-item.result c.in-Err.e c.at_item.result c.loop-i-test.true c.item-item.is c.in-Err.ensures c.at_item.ensures c.loop-i.invariant

pub components_from_items-loop-i-preserved : goal.components_from_items-loop-i-preserved
components_from_items-loop-i-preserved t c =
    rw c.in_ok-push-in-Ok.ensures.ok (goes_on (reading_items component_tree (a_record component) c.args.context c.args.items.now.items c.deref-item-items.result.now (component_items c.loop-i.list) c.loop-i.i) c.item-item.result c.in-Ok.held c.loop-i-test.true c.item-item.is c.in-Ok.ensures c.loop-i.invariant)

pub components_from_items-returns : goal.components_from_items-returns
components_from_items-returns t c =
    ap (λ r. r >>= λ ts. Ok (items ts)) (ends (reading_items component_tree (a_record component) c.args.context c.args.items.now.items c.deref-item-items.result.now (component_items c.loop-i.list) c.loop-i.i) (omega arith) c.loop-i.invariant) ∙ ap Ok (sym (components_tree-out c.loop-i.list))

pub read_components-returns-in-None : goal.read_components-returns-in-None
read_components-returns-in-None t c = list_err c.here.result (view c.args.value.now) components c.args.context.version (depth_of c.args.context.depth) c.in-None.ensures c.here.ensures

pub read_components-returns-in-Some : goal.read_components-returns-in-Some
unfolding list
read_components-returns-in-Some t c =
    list_gives components_tree c.components_from_items.result (view c.args.value.now) (items_view c.in-Some.items.now.items) (a_record component) components c.args.context.version (depth_of c.args.context.depth) refl c.in-Some.ensures c.components_from_items.ensures

pub read_pedigree-returns-in-None : goal.read_pedigree-returns-in-None
read_pedigree-returns-in-None t c = record_err c.here.result (view c.args.value.now) pedigree c.args.context.version (depth_of c.args.context.depth) refl c.in-None.ensures c.here.ensures

pub read_pedigree-returns-in_ok-members-in-Some : goal.read_pedigree-returns-in_ok-members-in-Some
read_pedigree-returns-in_ok-members-in-Some t c =
    record_gives pedigree_tree c.pedigree_from_members.result (view c.args.value.now) (seen_of c.in_ok-members-in-Some.members.members.items) pedigree c.args.context.version (depth_of c.args.context.depth) refl refl (ap Some c.in_ok-members-in-Some.ensures ∙ c.in-Some.ensures) c.pedigree_from_members.ensures

pub pedigree_from_members-returns-in_err-ancestors : goal.pedigree_from_members-returns-in_err-ancestors
unfolding rows_made rows list
pedigree_from_members-returns-in_err-ancestors t c =
    let p = err_from_is_err_and c.from_residual.result c.from_residual.ensures.1 in
    rw (p.1, p.2) (fails_then _ _ _ c.in_err-ancestors.ensures)

pub pedigree_from_members-returns-in_err-descendants : goal.pedigree_from_members-returns-in_err-descendants
unfolding rows_made rows list
pedigree_from_members-returns-in_err-descendants t c =
    let p = err_from_is_err_and c.from_residual-in_err-descendants.result c.from_residual-in_err-descendants.ensures.1 in
    rw (p.1, p.2, c.in_ok-ancestors.ensures) (fails_then _ _ _ c.in_err-descendants.ensures)

pub pedigree_from_members-returns-in_err-variants : goal.pedigree_from_members-returns-in_err-variants
unfolding rows_made rows list
pedigree_from_members-returns-in_err-variants t c =
    let p = err_from_is_err_and c.from_residual-in_err-variants.result c.from_residual-in_err-variants.ensures.1 in
    rw (p.1, p.2, c.in_ok-ancestors.ensures, c.in_ok-descendants.ensures) (fails_then _ _ _ c.in_err-variants.ensures)

pub pedigree_from_members-returns-in_err-commits : goal.pedigree_from_members-returns-in_err-commits
unfolding rows_made rows list
pedigree_from_members-returns-in_err-commits t c =
    let p = err_from_is_err_and c.from_residual-in_err-commits.result c.from_residual-in_err-commits.ensures.1 in
    rw (p.1, p.2, c.in_ok-ancestors.ensures, c.in_ok-descendants.ensures, c.in_ok-variants.ensures) (fails_then _ _ _ c.in_err-commits.ensures)

pub pedigree_from_members-returns-in_err-patches : goal.pedigree_from_members-returns-in_err-patches
unfolding rows_made rows list
pedigree_from_members-returns-in_err-patches t c =
    let p = err_from_is_err_and c.from_residual-in_err-patches.result c.from_residual-in_err-patches.ensures.1 in
    rw (p.1, p.2, c.in_ok-ancestors.ensures, c.in_ok-descendants.ensures, c.in_ok-variants.ensures, c.in_ok-commits.ensures) (fails_then _ _ _ c.in_err-patches.ensures)

pub pedigree_from_members-returns-in_err-notes : goal.pedigree_from_members-returns-in_err-notes
unfolding rows_made rows list
pedigree_from_members-returns-in_err-notes t c =
    let p = err_from_is_err_and c.from_residual-in_err-notes.result c.from_residual-in_err-notes.ensures.1 in
    rw (p.1, p.2, c.in_ok-ancestors.ensures, c.in_ok-descendants.ensures, c.in_ok-variants.ensures, c.in_ok-commits.ensures, c.in_ok-patches.ensures) (fails_then _ _ _ c.in_err-notes.ensures)

pub pedigree_from_members-returns : goal.pedigree_from_members-returns
unfolding rows_made rows list
pedigree_from_members-returns t c = rw (c.in_ok-ancestors.ensures, c.in_ok-descendants.ensures, c.in_ok-variants.ensures, c.in_ok-commits.ensures, c.in_ok-patches.ensures, c.in_ok-notes.ensures) (ap Ok (sym (pedigree_tree-roll (record { ancestors = c.in_ok-ancestors.ancestors; descendants = c.in_ok-descendants.descendants; variants = c.in_ok-variants.variants; commits = c.in_ok-commits.commits; patches = c.in_ok-patches.patches; notes = c.in_ok-notes.notes }))))

pub read_contents-returns-in_err-pedigree : goal.read_contents-returns-in_err-pedigree
unfolding rows_made rows list
read_contents-returns-in_err-pedigree t c =
    let p = err_from_is_err_and c.from_residual.result c.from_residual.ensures.1 in
    rw (p.1, p.2) (fails_then _ _ _ c.in_err-pedigree.ensures)

pub read_contents-returns-in_err-external_references : goal.read_contents-returns-in_err-external_references
unfolding rows_made rows list
read_contents-returns-in_err-external_references t c =
    let p = err_from_is_err_and c.from_residual-in_err-external_references.result c.from_residual-in_err-external_references.ensures.1 in
    rw (p.1, p.2, c.in_ok-pedigree.ensures) (fails_then _ _ _ c.in_err-external_references.ensures)

pub read_contents-returns-in_err-properties : goal.read_contents-returns-in_err-properties
unfolding rows_made rows list
read_contents-returns-in_err-properties t c =
    let p = err_from_is_err_and c.from_residual-in_err-properties.result c.from_residual-in_err-properties.ensures.1 in
    rw (p.1, p.2, c.in_ok-pedigree.ensures, c.in_ok-external_references.ensures) (fails_then _ _ _ c.in_err-properties.ensures)

pub read_contents-returns-in_err-components : goal.read_contents-returns-in_err-components
unfolding rows_made rows list
read_contents-returns-in_err-components t c =
    let p = err_from_is_err_and c.from_residual-in_err-components.result c.from_residual-in_err-components.ensures.1 in
    rw (p.1, p.2, c.in_ok-pedigree.ensures, c.in_ok-external_references.ensures, c.in_ok-properties.ensures) (fails_then _ _ _ c.in_err-components.ensures)

pub read_contents-returns-in_err-evidence : goal.read_contents-returns-in_err-evidence
unfolding rows_made rows list
read_contents-returns-in_err-evidence t c =
    let p = err_from_is_err_and c.from_residual-in_err-evidence.result c.from_residual-in_err-evidence.ensures.1 in
    rw (p.1, p.2, c.in_ok-pedigree.ensures, c.in_ok-external_references.ensures, c.in_ok-properties.ensures, c.in_ok-components.ensures) (fails_then _ _ _ c.in_err-evidence.ensures)

pub read_contents-returns-in_err-signature : goal.read_contents-returns-in_err-signature
unfolding rows_made rows list
read_contents-returns-in_err-signature t c =
    let p = err_from_is_err_and c.from_residual-in_err-signature.result c.from_residual-in_err-signature.ensures.1 in
    rw (p.1, p.2, c.in_ok-pedigree.ensures, c.in_ok-external_references.ensures, c.in_ok-properties.ensures, c.in_ok-components.ensures, c.in_ok-evidence.ensures) (fails_then _ _ _ c.in_err-signature.ensures)

pub read_contents-returns : goal.read_contents-returns
unfolding rows_made rows list
read_contents-returns t c = rw (c.in_ok-pedigree.ensures, c.in_ok-external_references.ensures, c.in_ok-properties.ensures, c.in_ok-components.ensures, c.in_ok-evidence.ensures, c.in_ok-signature.ensures) refl

pub read_pedigree_row-returns-in-None : goal.read_pedigree_row-returns-in-None
read_pedigree_row-returns-in-None t c = may_none c.args.name.now (a_record pedigree) (seen_of c.args.map.now.members.items) c.args.context.version (depth_of c.args.context.depth) c.in-None.ensures

pub read_pedigree_row-returns-in-Ok : goal.read_pedigree_row-returns-in-Ok
read_pedigree_row-returns-in-Ok t c = live_ok c.args.name.now optional (a_record pedigree) (seen_of c.args.map.now.members.items) c.args.context.version (depth_of c.args.context.depth) (view c.in-Some.value.now) (pedigree_tree c.in-Ok.held) c.in-Some.ensures c.in-Ok.ensures

pub read_pedigree_row-returns-in-Err : goal.read_pedigree_row-returns-in-Err
read_pedigree_row-returns-in-Err t c = live_err c.in-Err.e c.at_member.result c.args.name.now optional (a_record pedigree) (seen_of c.args.map.now.members.items) c.args.context.version (depth_of c.args.context.depth) (view c.in-Some.value.now) c.in-Some.ensures c.in-Err.ensures c.at_member.ensures

pub read_components_row-returns-in-None : goal.read_components_row-returns-in-None
read_components_row-returns-in-None t c = may_none c.args.name.now (a_list components) (seen_of c.args.map.now.members.items) c.args.context.version (depth_of c.args.context.depth) c.in-None.ensures

pub read_components_row-returns-in-Ok : goal.read_components_row-returns-in-Ok
read_components_row-returns-in-Ok t c = live_ok c.args.name.now optional (a_list components) (seen_of c.args.map.now.members.items) c.args.context.version (depth_of c.args.context.depth) (view c.in-Some.value.now) (components_tree c.in-Ok.held) c.in-Some.ensures c.in-Ok.ensures

pub read_components_row-returns-in-Err : goal.read_components_row-returns-in-Err
read_components_row-returns-in-Err t c = live_err c.in-Err.e c.at_member.result c.args.name.now optional (a_list components) (seen_of c.args.map.now.members.items) c.args.context.version (depth_of c.args.context.depth) (view c.in-Some.value.now) c.in-Some.ensures c.in-Err.ensures c.at_member.ensures
