use Rattle.std.proofs.Common.{Err, [], ◌∷◌, ◌++◌, codes, sym, ap, ◌∙◌}
use Rattle.std.specs.List.{flat_map}
use Rattle.std.proofs.lemmas.List.{append-nil}
use Rattle.std.proofs.lemmas.Result.{err_from_is_err_and}
use Rattle.cdx_models.specs.Trees.{component, pedigree}
use Rattle.cdx_schema.specs.Kinds.{components, a_list, a_record}
use Rattle.cdx_schema.specs.Table.{rows, list}
use Rattle.cdx_schema.specs.Groups.{group}
use Rattle.cdx_write.specs.Listed.{item_put}
use Rattle.cdx_write.specs.Spelling.{spelled_events, inner}
use Rattle.cdx_write.specs.WrittenRows.{child_written, rows_written}
use Rattle.cdx_write.specs.Writing.{opening, start_tag, end_tag}
use Rattle.cdx_write.proofs.Appended.{first_fails, item_fails, item_written, items_end, from, then_fails, then_last, ◌▸◌, writing_items}
use Rattle.cdx_write.proofs.Lists.{items_put}
use Rattle.cdx_write.proofs.RowWords.{appends_same, nothing_added, child_none}
use Rattle.cdx_component.specs.declared.component.Component.TheViews.{out-Component, out-Pedigree}
use Rattle.cdx_component.specs.Trees.{component_tree, components_tree, pedigree_tree, origin, naming, marks, component_contents, component_fields, pedigree_fields, component_items}
use Rattle.cdx_component.proofs.Written.{component_in_groups, component_made, pedigree_made, component_item, pedigree_child, components_inner, components_made, components_child}
use Rattle.cdx_component.proofs.xml.writing.elements.+component_elements.Goals as goal

pub write_component-returns-in_err-write_opening : goal.write_component-returns-in_err-write_opening
write_component-returns-in_err-write_opening t c =
    let p = err_from_is_err_and c.from_residual-in_err-write_opening.result c.from_residual-in_err-write_opening.ensures.1 in
    let tag = c.args.tag.now in
    let x = c.args.held.now in
    let start = opening tag c.in_ok-attributes.attributes in
    let content = rows_written (component_fields components_tree pedigree_tree (out-Component x)) c.args.target.version (rows component) in
    let same = component_made x c.args.target.version tag c.in_ok-attributes.attributes c.in_ok-attributes.ensures in
    rw (p.1, p.2) (appends_same c.args.writer.now c.write_opening.new.writer (start ∷ content ++ end_tag tag ∷ []) (spelled_events (component_tree x) c.args.target.version tag (a_record component)) (Err _) same
    (first_fails c.args.writer.now c.write_opening.new.writer (start ∷ []) (content ++ end_tag tag ∷ []) _ c.in_err-write_opening.ensures))

pub write_component-returns-in_err-write_rows : goal.write_component-returns-in_err-write_rows
write_component-returns-in_err-write_rows t c =
    let p = err_from_is_err_and c.from_residual-in_err-write_rows.result c.from_residual-in_err-write_rows.ensures.1 in
    let tag = c.args.tag.now in
    let x = c.args.held.now in
    let start = opening tag c.in_ok-attributes.attributes in
    let content = rows_written (component_fields components_tree pedigree_tree (out-Component x)) c.args.target.version (rows component) in
    let same = component_made x c.args.target.version tag c.in_ok-attributes.attributes c.in_ok-attributes.ensures in
    rw (p.1, p.2) (appends_same c.args.writer.now c.write_rows.new.writer (start ∷ content ++ end_tag tag ∷ []) (spelled_events (component_tree x) c.args.target.version tag (a_record component)) (Err _) same
    (then_fails (from c.args.writer.now ▸ (start ∷ [], c.in_ok-write_opening.ensures)) c.write_rows.new.writer content (end_tag tag ∷ []) _ c.in_err-write_rows.ensures))

pub write_component-returns : goal.write_component-returns
write_component-returns t c =
    let tag = c.args.tag.now in
    let x = c.args.held.now in
    let start = opening tag c.in_ok-attributes.attributes in
    let content = rows_written (component_fields components_tree pedigree_tree (out-Component x)) c.args.target.version (rows component) in
    let same = component_made x c.args.target.version tag c.in_ok-attributes.attributes c.in_ok-attributes.ensures in
    appends_same c.args.writer.now c.write_close_tag.new.writer (start ∷ content ++ end_tag tag ∷ []) (spelled_events (component_tree x) c.args.target.version tag (a_record component)) c.write_close_tag.result same
    ((from c.args.writer.now ▸ (start ∷ [], c.in_ok-write_opening.ensures) ▸ (content, c.in_ok-write_rows.ensures)).then_all c.write_close_tag.new.writer (end_tag tag ∷ []) c.write_close_tag.result c.write_close_tag.ensures)

pub write_components-returns-in_err-write_start_tag : goal.write_components-returns-in_err-write_start_tag
write_components-returns-in_err-write_start_tag t c =
    let p = err_from_is_err_and c.from_residual.result c.from_residual.ensures.1 in
    let tag = c.args.tag.now in
    let x = c.args.held.now in
    let start = start_tag tag in
    let content = inner (components_tree x) c.args.target.version (a_list components) in
    let same = components_made tag c.args.target.version x in
    rw (p.1, p.2) (appends_same c.args.writer.now c.write_start_tag.new.writer (start ∷ content ++ end_tag tag ∷ []) (spelled_events (components_tree x) c.args.target.version tag (a_list components)) (Err _) same
    (first_fails c.args.writer.now c.write_start_tag.new.writer (start ∷ []) (content ++ end_tag tag ∷ []) _ c.in_err-write_start_tag.ensures))

pub write_components-returns-in_err-write_items : goal.write_components-returns-in_err-write_items
write_components-returns-in_err-write_items t c =
    let p = err_from_is_err_and c.from_residual-in_err-write_items.result c.from_residual-in_err-write_items.ensures.1 in
    let tag = c.args.tag.now in
    let x = c.args.held.now in
    let start = start_tag tag in
    let content = inner (components_tree x) c.args.target.version (a_list components) in
    let same = components_made tag c.args.target.version x in
    rw (p.1, p.2) (appends_same c.args.writer.now c.write_items.new.writer (start ∷ content ++ end_tag tag ∷ []) (spelled_events (components_tree x) c.args.target.version tag (a_list components)) (Err _) same
    (then_fails (from c.args.writer.now ▸ (start ∷ [], c.in_ok-write_start_tag.ensures)) c.write_items.new.writer content (end_tag tag ∷ []) _ c.in_err-write_items.ensures))

pub write_components-returns : goal.write_components-returns
write_components-returns t c =
    let tag = c.args.tag.now in
    let x = c.args.held.now in
    let start = start_tag tag in
    let content = inner (components_tree x) c.args.target.version (a_list components) in
    let same = components_made tag c.args.target.version x in
    appends_same c.args.writer.now c.write_close_tag.new.writer (start ∷ content ++ end_tag tag ∷ []) (spelled_events (components_tree x) c.args.target.version tag (a_list components)) c.write_close_tag.result same
    ((from c.args.writer.now ▸ (start ∷ [], c.in_ok-write_start_tag.ensures) ▸ (content, c.in_ok-write_items.ensures)).then_all c.write_close_tag.new.writer (end_tag tag ∷ []) c.write_close_tag.result c.write_close_tag.ensures)

pub write_pedigree-returns-in_err-write_start_tag : goal.write_pedigree-returns-in_err-write_start_tag
write_pedigree-returns-in_err-write_start_tag t c =
    let p = err_from_is_err_and c.from_residual.result c.from_residual.ensures.1 in
    let tag = c.args.tag.now in
    let x = c.args.held.now in
    let start = start_tag tag in
    let content = rows_written (pedigree_fields components_tree (out-Pedigree x)) c.args.target.version (rows pedigree) in
    let same = pedigree_made x c.args.target.version tag in
    rw (p.1, p.2) (appends_same c.args.writer.now c.write_start_tag.new.writer (start ∷ content ++ end_tag tag ∷ []) (spelled_events (pedigree_tree x) c.args.target.version tag (a_record pedigree)) (Err _) same
    (first_fails c.args.writer.now c.write_start_tag.new.writer (start ∷ []) (content ++ end_tag tag ∷ []) _ c.in_err-write_start_tag.ensures))

pub write_pedigree-returns-in_err-write_pedigree_rows : goal.write_pedigree-returns-in_err-write_pedigree_rows
write_pedigree-returns-in_err-write_pedigree_rows t c =
    let p = err_from_is_err_and c.from_residual-in_err-write_pedigree_rows.result c.from_residual-in_err-write_pedigree_rows.ensures.1 in
    let tag = c.args.tag.now in
    let x = c.args.held.now in
    let start = start_tag tag in
    let content = rows_written (pedigree_fields components_tree (out-Pedigree x)) c.args.target.version (rows pedigree) in
    let same = pedigree_made x c.args.target.version tag in
    rw (p.1, p.2) (appends_same c.args.writer.now c.write_pedigree_rows.new.writer (start ∷ content ++ end_tag tag ∷ []) (spelled_events (pedigree_tree x) c.args.target.version tag (a_record pedigree)) (Err _) same
    (then_fails (from c.args.writer.now ▸ (start ∷ [], c.in_ok-write_start_tag.ensures)) c.write_pedigree_rows.new.writer content (end_tag tag ∷ []) _ c.in_err-write_pedigree_rows.ensures))

pub write_pedigree-returns : goal.write_pedigree-returns
write_pedigree-returns t c =
    let tag = c.args.tag.now in
    let x = c.args.held.now in
    let start = start_tag tag in
    let content = rows_written (pedigree_fields components_tree (out-Pedigree x)) c.args.target.version (rows pedigree) in
    let same = pedigree_made x c.args.target.version tag in
    appends_same c.args.writer.now c.write_close_tag.new.writer (start ∷ content ++ end_tag tag ∷ []) (spelled_events (pedigree_tree x) c.args.target.version tag (a_record pedigree)) c.write_close_tag.result same
    ((from c.args.writer.now ▸ (start ∷ [], c.in_ok-write_start_tag.ensures) ▸ (content, c.in_ok-write_pedigree_rows.ensures)).then_all c.write_close_tag.new.writer (end_tag tag ∷ []) c.write_close_tag.result c.write_close_tag.ensures)

pub write_items-loop-item-init : goal.write_items-loop-item-init
write_items-loop-item-init t c =
    sym (append-nil c.args.writer.now)

pub write_items-loop-item-preserved : goal.write_items-loop-item-preserved
write_items-loop-item-preserved t c =
    let x = c.item-item.result in
    item_written (writing_items (items_put component_tree (codes "component") (a_record component) c.args.target.version) c.deref-item-items.result.now c.loop-item.item-index c.args.writer.now c.loop-item.writer) c.write_component.new.writer x c.loop-item-test.true c.item-item.is c.loop-item.invariant
    (c.in_ok-write_component.ensures ∙ ap (λ s. c.loop-item.writer ++ s) (component_item (codes "component") c.args.target.version x))

pub write_items-returns-in_err-write_component : goal.write_items-returns-in_err-write_component
write_items-returns-in_err-write_component t c =
    let p = err_from_is_err_and c.from_residual.result c.from_residual.ensures.1 in
    let x = c.item-item.result in
    let f = items_put component_tree (codes "component") (a_record component) c.args.target.version in
    let new = c.write_component.new.writer in
    let all = flat_map f (component_items c.args.held.now) in
    rw (p.1, p.2) (appends_same c.args.writer.now new (all ++ []) (inner (components_tree c.args.held.now) c.args.target.version (a_list components)) (Err _) (append-nil all ∙ components_inner c.args.target.version c.args.held.now)
    (item_fails (writing_items f c.deref-item-items.result.now c.loop-item.item-index c.args.writer.now c.loop-item.writer) new [] (component_items c.args.held.now) x _ c.deref-item-items.ensures.value c.loop-item-test.true c.item-item.is c.loop-item.invariant
    (appends_same c.loop-item.writer new (spelled_events (component_tree x) c.args.target.version (codes "component") (a_record component)) (item_put (codes "component") (a_record component) (component_tree x) c.args.target.version) (Err _) (component_item (codes "component") c.args.target.version x) c.in_err-write_component.ensures)))

pub write_items-returns : goal.write_items-returns
write_items-returns t c =
    items_end (writing_items (items_put component_tree (codes "component") (a_record component) c.args.target.version) c.deref-item-items.result.now c.loop-item.item-index c.args.writer.now c.loop-item.writer) (component_items c.args.held.now) c.deref-item-items.ensures.value c.loop-item-test.false c.loop-item.invariant
    ∙ ap (λ s. c.args.writer.now ++ s) (components_inner c.args.target.version c.args.held.now)

pub write_rows-returns-in_err-write_origin_rows : goal.write_rows-returns-in_err-write_origin_rows
write_rows-returns-in_err-write_origin_rows t c =
    let p = err_from_is_err_and c.from_residual.result c.from_residual.ensures.1 in
    let g0 = rows_written (origin (out-Component c.args.held.now)) c.args.target.version (group 0 component) in
    let g1 = rows_written (naming (out-Component c.args.held.now)) c.args.target.version (group 1 component) in
    let g2 = rows_written (marks (out-Component c.args.held.now)) c.args.target.version (group 2 component) in
    let g3 = rows_written (component_contents components_tree pedigree_tree (out-Component c.args.held.now)) c.args.target.version (group 3 component) in
    rw (p.1, p.2) (appends_same c.args.writer.now c.write_origin_rows.new.writer (g0 ++ (g1 ++ (g2 ++ g3))) (rows_written (component_fields components_tree pedigree_tree (out-Component c.args.held.now)) c.args.target.version (rows component)) (Err _) (component_in_groups (out-Component c.args.held.now) c.args.target.version)
    (first_fails c.args.writer.now c.write_origin_rows.new.writer g0 (g1 ++ (g2 ++ g3)) _ c.in_err-write_origin_rows.ensures))

pub write_rows-returns-in_err-write_naming_rows : goal.write_rows-returns-in_err-write_naming_rows
write_rows-returns-in_err-write_naming_rows t c =
    let p = err_from_is_err_and c.from_residual-in_err-write_naming_rows.result c.from_residual-in_err-write_naming_rows.ensures.1 in
    let g0 = rows_written (origin (out-Component c.args.held.now)) c.args.target.version (group 0 component) in
    let g1 = rows_written (naming (out-Component c.args.held.now)) c.args.target.version (group 1 component) in
    let g2 = rows_written (marks (out-Component c.args.held.now)) c.args.target.version (group 2 component) in
    let g3 = rows_written (component_contents components_tree pedigree_tree (out-Component c.args.held.now)) c.args.target.version (group 3 component) in
    rw (p.1, p.2) (appends_same c.args.writer.now c.write_naming_rows.new.writer (g0 ++ (g1 ++ (g2 ++ g3))) (rows_written (component_fields components_tree pedigree_tree (out-Component c.args.held.now)) c.args.target.version (rows component)) (Err _) (component_in_groups (out-Component c.args.held.now) c.args.target.version)
    (then_fails (from c.args.writer.now ▸ (g0, c.in_ok-write_origin_rows.ensures)) c.write_naming_rows.new.writer g1 (g2 ++ g3) _ c.in_err-write_naming_rows.ensures))

pub write_rows-returns-in_err-write_marks_rows : goal.write_rows-returns-in_err-write_marks_rows
write_rows-returns-in_err-write_marks_rows t c =
    let p = err_from_is_err_and c.from_residual-in_err-write_marks_rows.result c.from_residual-in_err-write_marks_rows.ensures.1 in
    let g0 = rows_written (origin (out-Component c.args.held.now)) c.args.target.version (group 0 component) in
    let g1 = rows_written (naming (out-Component c.args.held.now)) c.args.target.version (group 1 component) in
    let g2 = rows_written (marks (out-Component c.args.held.now)) c.args.target.version (group 2 component) in
    let g3 = rows_written (component_contents components_tree pedigree_tree (out-Component c.args.held.now)) c.args.target.version (group 3 component) in
    rw (p.1, p.2) (appends_same c.args.writer.now c.write_marks_rows.new.writer (g0 ++ (g1 ++ (g2 ++ g3))) (rows_written (component_fields components_tree pedigree_tree (out-Component c.args.held.now)) c.args.target.version (rows component)) (Err _) (component_in_groups (out-Component c.args.held.now) c.args.target.version)
    (then_fails (from c.args.writer.now ▸ (g0, c.in_ok-write_origin_rows.ensures) ▸ (g1, c.in_ok-write_naming_rows.ensures)) c.write_marks_rows.new.writer g2 g3 _ c.in_err-write_marks_rows.ensures))

pub write_rows-returns : goal.write_rows-returns
write_rows-returns t c =
    let g0 = rows_written (origin (out-Component c.args.held.now)) c.args.target.version (group 0 component) in
    let g1 = rows_written (naming (out-Component c.args.held.now)) c.args.target.version (group 1 component) in
    let g2 = rows_written (marks (out-Component c.args.held.now)) c.args.target.version (group 2 component) in
    let g3 = rows_written (component_contents components_tree pedigree_tree (out-Component c.args.held.now)) c.args.target.version (group 3 component) in
    appends_same c.args.writer.now c.write_contents_rows.new.writer (g0 ++ (g1 ++ (g2 ++ g3))) (rows_written (component_fields components_tree pedigree_tree (out-Component c.args.held.now)) c.args.target.version (rows component)) c.write_contents_rows.result (component_in_groups (out-Component c.args.held.now) c.args.target.version)
    ((from c.args.writer.now ▸ (g0, c.in_ok-write_origin_rows.ensures) ▸ (g1, c.in_ok-write_naming_rows.ensures) ▸ (g2, c.in_ok-write_marks_rows.ensures)).then_all c.write_contents_rows.new.writer g3 c.write_contents_rows.result c.write_contents_rows.ensures)

pub write_contents_rows-returns-in_err-put_pedigree : goal.write_contents_rows-returns-in_err-put_pedigree
unfolding rows_written rows list
write_contents_rows-returns-in_err-put_pedigree t c =
    let p = err_from_is_err_and c.from_residual.result c.from_residual.ensures.1 in
    rw (p.1, p.2) (first_fails c.args.writer.now c.put_pedigree.new.writer _ _ _ (c.in_err-put_pedigree.ensures))

pub write_contents_rows-returns-in_err-put_child : goal.write_contents_rows-returns-in_err-put_child
unfolding rows_written rows list
write_contents_rows-returns-in_err-put_child t c =
    let p = err_from_is_err_and c.from_residual-in_err-put_child.result c.from_residual-in_err-put_child.ensures.1 in
    rw (p.1, p.2) (then_fails (from c.args.writer.now ▸ (_, c.in_ok-put_pedigree.ensures)) c.put_child.new.writer _ _ _ c.in_err-put_child.ensures)

pub write_contents_rows-returns-in_err-put_child-2 : goal.write_contents_rows-returns-in_err-put_child-2
unfolding rows_written rows list
write_contents_rows-returns-in_err-put_child-2 t c =
    let p = err_from_is_err_and c.from_residual-in_err-put_child-2.result c.from_residual-in_err-put_child-2.ensures.1 in
    rw (p.1, p.2) (then_fails (from c.args.writer.now ▸ (_, c.in_ok-put_pedigree.ensures) ▸ (_, c.in_ok-put_child.ensures)) c.put_child-2.new.writer _ _ _ c.in_err-put_child-2.ensures)

pub write_contents_rows-returns-in_err-put_components : goal.write_contents_rows-returns-in_err-put_components
unfolding rows_written rows list
write_contents_rows-returns-in_err-put_components t c =
    let p = err_from_is_err_and c.from_residual-in_err-put_components.result c.from_residual-in_err-put_components.ensures.1 in
    rw (p.1, p.2) (then_fails (from c.args.writer.now ▸ (_, c.in_ok-put_pedigree.ensures) ▸ (_, c.in_ok-put_child.ensures) ▸ (_, c.in_ok-put_child-2.ensures)) c.put_components.new.writer _ _ _ c.in_err-put_components.ensures)

pub write_contents_rows-returns-in_err-put_filled_child : goal.write_contents_rows-returns-in_err-put_filled_child
unfolding rows_written rows list
write_contents_rows-returns-in_err-put_filled_child t c =
    let p = err_from_is_err_and c.from_residual-in_err-put_filled_child.result c.from_residual-in_err-put_filled_child.ensures.1 in
    rw (p.1, p.2) (then_fails (from c.args.writer.now ▸ (_, c.in_ok-put_pedigree.ensures) ▸ (_, c.in_ok-put_child.ensures) ▸ (_, c.in_ok-put_child-2.ensures) ▸ (_, c.in_ok-put_components.ensures)) c.put_filled_child.new.writer _ _ _ c.in_err-put_filled_child.ensures)

pub write_contents_rows-returns : goal.write_contents_rows-returns
unfolding rows_written rows list
write_contents_rows-returns t c =
    then_last (from c.args.writer.now ▸ (_, c.in_ok-put_pedigree.ensures) ▸ (_, c.in_ok-put_child.ensures) ▸ (_, c.in_ok-put_child-2.ensures) ▸ (_, c.in_ok-put_components.ensures) ▸ (_, c.in_ok-put_filled_child.ensures)) c.put_child_since.new.writer _ c.put_child_since.result c.put_child_since.ensures

pub write_pedigree_rows-returns-in_err-put_components : goal.write_pedigree_rows-returns-in_err-put_components
unfolding rows_written rows list
write_pedigree_rows-returns-in_err-put_components t c =
    let p = err_from_is_err_and c.from_residual.result c.from_residual.ensures.1 in
    rw (p.1, p.2) (first_fails c.args.writer.now c.put_components.new.writer _ _ _ (c.in_err-put_components.ensures))

pub write_pedigree_rows-returns-in_err-put_components-2 : goal.write_pedigree_rows-returns-in_err-put_components-2
unfolding rows_written rows list
write_pedigree_rows-returns-in_err-put_components-2 t c =
    let p = err_from_is_err_and c.from_residual-in_err-put_components-2.result c.from_residual-in_err-put_components-2.ensures.1 in
    rw (p.1, p.2) (then_fails (from c.args.writer.now ▸ (_, c.in_ok-put_components.ensures)) c.put_components-2.new.writer _ _ _ c.in_err-put_components-2.ensures)

pub write_pedigree_rows-returns-in_err-put_components-3 : goal.write_pedigree_rows-returns-in_err-put_components-3
unfolding rows_written rows list
write_pedigree_rows-returns-in_err-put_components-3 t c =
    let p = err_from_is_err_and c.from_residual-in_err-put_components-3.result c.from_residual-in_err-put_components-3.ensures.1 in
    rw (p.1, p.2) (then_fails (from c.args.writer.now ▸ (_, c.in_ok-put_components.ensures) ▸ (_, c.in_ok-put_components-2.ensures)) c.put_components-3.new.writer _ _ _ c.in_err-put_components-3.ensures)

pub write_pedigree_rows-returns-in_err-put_child : goal.write_pedigree_rows-returns-in_err-put_child
unfolding rows_written rows list
write_pedigree_rows-returns-in_err-put_child t c =
    let p = err_from_is_err_and c.from_residual-in_err-put_child.result c.from_residual-in_err-put_child.ensures.1 in
    rw (p.1, p.2) (then_fails (from c.args.writer.now ▸ (_, c.in_ok-put_components.ensures) ▸ (_, c.in_ok-put_components-2.ensures) ▸ (_, c.in_ok-put_components-3.ensures)) c.put_child.new.writer _ _ _ c.in_err-put_child.ensures)

pub write_pedigree_rows-returns-in_err-put_child-2 : goal.write_pedigree_rows-returns-in_err-put_child-2
unfolding rows_written rows list
write_pedigree_rows-returns-in_err-put_child-2 t c =
    let p = err_from_is_err_and c.from_residual-in_err-put_child-2.result c.from_residual-in_err-put_child-2.ensures.1 in
    rw (p.1, p.2) (then_fails (from c.args.writer.now ▸ (_, c.in_ok-put_components.ensures) ▸ (_, c.in_ok-put_components-2.ensures) ▸ (_, c.in_ok-put_components-3.ensures) ▸ (_, c.in_ok-put_child.ensures)) c.put_child-2.new.writer _ _ _ c.in_err-put_child-2.ensures)

pub write_pedigree_rows-returns : goal.write_pedigree_rows-returns
unfolding rows_written rows list
write_pedigree_rows-returns t c =
    then_last (from c.args.writer.now ▸ (_, c.in_ok-put_components.ensures) ▸ (_, c.in_ok-put_components-2.ensures) ▸ (_, c.in_ok-put_components-3.ensures) ▸ (_, c.in_ok-put_child.ensures) ▸ (_, c.in_ok-put_child-2.ensures)) c.put_child-3.new.writer _ c.put_child-3.result c.put_child-3.ensures

pub put_pedigree-returns-in-None : goal.put_pedigree-returns-in-None
put_pedigree-returns-in-None t c =
    rw c.in-None.is (nothing_added c.args.writer.now _ (child_none c.args.name.now (a_record pedigree) c.args.target.version))

pub put_pedigree-returns-in-Some : goal.put_pedigree-returns-in-Some
put_pedigree-returns-in-Some t c =
    let x = c.in-Some.held in
    rw c.in-Some.is (appends_same c.args.writer.now c.write_pedigree.new.writer (spelled_events (pedigree_tree x) c.args.target.version c.args.name.now (a_record pedigree)) (child_written c.args.name.now (a_record pedigree) (pedigree_tree x) c.args.target.version) c.write_pedigree.result
    (pedigree_child c.args.name.now c.args.target.version x) c.write_pedigree.ensures)

pub put_components-returns-in-None : goal.put_components-returns-in-None
put_components-returns-in-None t c =
    rw c.in-None.is (nothing_added c.args.writer.now _ (child_none c.args.name.now (a_list components) c.args.target.version))

pub put_components-returns-in-Some : goal.put_components-returns-in-Some
put_components-returns-in-Some t c =
    let x = c.in-Some.held in
    rw c.in-Some.is (appends_same c.args.writer.now c.write_components.new.writer (spelled_events (components_tree x) c.args.target.version c.args.name.now (a_list components)) (child_written c.args.name.now (a_list components) (components_tree x) c.args.target.version) c.write_components.result
    (components_child c.args.name.now c.args.target.version x) c.write_components.ensures)
