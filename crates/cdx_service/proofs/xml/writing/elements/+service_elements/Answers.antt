use Rattle.std.proofs.Common.{Err, [], ◌∷◌, ◌++◌, codes, sym, ap, ◌∙◌}
use Rattle.std.specs.List.{flat_map}
use Rattle.std.proofs.lemmas.List.{append-nil}
use Rattle.std.proofs.lemmas.Result.{err_from_is_err_and}
use Rattle.cdx_models.specs.Trees.{service}
use Rattle.cdx_schema.specs.Kinds.{services, a_list, a_record}
use Rattle.cdx_schema.specs.Table.{rows, list}
use Rattle.cdx_schema.specs.Groups.{group}
use Rattle.cdx_write.specs.Listed.{item_put}
use Rattle.cdx_write.specs.Spelling.{spelled_events, inner}
use Rattle.cdx_write.specs.WrittenRows.{child_written, rows_written}
use Rattle.cdx_write.specs.Writing.{opening, start_tag, end_tag}
use Rattle.cdx_write.proofs.Appended.{first_fails, item_fails, item_written, items_end, from, then_fails, then_last, ◌▸◌, writing_items}
use Rattle.cdx_write.proofs.Lists.{items_put}
use Rattle.cdx_write.proofs.RowWords.{appends_same, nothing_added, child_none}
use Rattle.cdx_service.specs.declared.service.Service.TheViews.{out-Service}
use Rattle.cdx_service.specs.Trees.{service_tree, services_tree, service_naming, service_access, service_contents, service_fields, service_items}
use Rattle.cdx_service.proofs.Written.{service_in_groups, service_made, service_item, services_inner, services_made, services_child}
use Rattle.cdx_service.proofs.xml.writing.elements.+service_elements.Goals as goal

pub write_service-returns-in_err-write_opening : goal.write_service-returns-in_err-write_opening
write_service-returns-in_err-write_opening t c =
    let p = err_from_is_err_and c.from_residual-in_err-write_opening.result c.from_residual-in_err-write_opening.ensures.1 in
    let tag = c.args.tag.now in
    let x = c.args.held.now in
    let start = opening tag c.in_ok-attributes.attributes in
    let content = rows_written (service_fields services_tree (out-Service x)) c.args.target.version (rows service) in
    let same = service_made x c.args.target.version tag c.in_ok-attributes.attributes c.in_ok-attributes.ensures in
    rw (p.1, p.2) (appends_same c.args.writer.now c.write_opening.new.writer (start ∷ content ++ end_tag tag ∷ []) (spelled_events (service_tree x) c.args.target.version tag (a_record service)) (Err _) same
    (first_fails c.args.writer.now c.write_opening.new.writer (start ∷ []) (content ++ end_tag tag ∷ []) _ c.in_err-write_opening.ensures))

pub write_service-returns-in_err-write_rows : goal.write_service-returns-in_err-write_rows
write_service-returns-in_err-write_rows t c =
    let p = err_from_is_err_and c.from_residual-in_err-write_rows.result c.from_residual-in_err-write_rows.ensures.1 in
    let tag = c.args.tag.now in
    let x = c.args.held.now in
    let start = opening tag c.in_ok-attributes.attributes in
    let content = rows_written (service_fields services_tree (out-Service x)) c.args.target.version (rows service) in
    let same = service_made x c.args.target.version tag c.in_ok-attributes.attributes c.in_ok-attributes.ensures in
    rw (p.1, p.2) (appends_same c.args.writer.now c.write_rows.new.writer (start ∷ content ++ end_tag tag ∷ []) (spelled_events (service_tree x) c.args.target.version tag (a_record service)) (Err _) same
    (then_fails (from c.args.writer.now ▸ (start ∷ [], c.in_ok-write_opening.ensures)) c.write_rows.new.writer content (end_tag tag ∷ []) _ c.in_err-write_rows.ensures))

pub write_service-returns : goal.write_service-returns
write_service-returns t c =
    let tag = c.args.tag.now in
    let x = c.args.held.now in
    let start = opening tag c.in_ok-attributes.attributes in
    let content = rows_written (service_fields services_tree (out-Service x)) c.args.target.version (rows service) in
    let same = service_made x c.args.target.version tag c.in_ok-attributes.attributes c.in_ok-attributes.ensures in
    appends_same c.args.writer.now c.write_close_tag.new.writer (start ∷ content ++ end_tag tag ∷ []) (spelled_events (service_tree x) c.args.target.version tag (a_record service)) c.write_close_tag.result same
    ((from c.args.writer.now ▸ (start ∷ [], c.in_ok-write_opening.ensures) ▸ (content, c.in_ok-write_rows.ensures)).then_all c.write_close_tag.new.writer (end_tag tag ∷ []) c.write_close_tag.result c.write_close_tag.ensures)

pub write_services-returns-in_err-write_start_tag : goal.write_services-returns-in_err-write_start_tag
write_services-returns-in_err-write_start_tag t c =
    let p = err_from_is_err_and c.from_residual.result c.from_residual.ensures.1 in
    let tag = c.args.tag.now in
    let x = c.args.held.now in
    let start = start_tag tag in
    let content = inner (services_tree x) c.args.target.version (a_list services) in
    let same = services_made tag c.args.target.version x in
    rw (p.1, p.2) (appends_same c.args.writer.now c.write_start_tag.new.writer (start ∷ content ++ end_tag tag ∷ []) (spelled_events (services_tree x) c.args.target.version tag (a_list services)) (Err _) same
    (first_fails c.args.writer.now c.write_start_tag.new.writer (start ∷ []) (content ++ end_tag tag ∷ []) _ c.in_err-write_start_tag.ensures))

pub write_services-returns-in_err-write_items : goal.write_services-returns-in_err-write_items
write_services-returns-in_err-write_items t c =
    let p = err_from_is_err_and c.from_residual-in_err-write_items.result c.from_residual-in_err-write_items.ensures.1 in
    let tag = c.args.tag.now in
    let x = c.args.held.now in
    let start = start_tag tag in
    let content = inner (services_tree x) c.args.target.version (a_list services) in
    let same = services_made tag c.args.target.version x in
    rw (p.1, p.2) (appends_same c.args.writer.now c.write_items.new.writer (start ∷ content ++ end_tag tag ∷ []) (spelled_events (services_tree x) c.args.target.version tag (a_list services)) (Err _) same
    (then_fails (from c.args.writer.now ▸ (start ∷ [], c.in_ok-write_start_tag.ensures)) c.write_items.new.writer content (end_tag tag ∷ []) _ c.in_err-write_items.ensures))

pub write_services-returns : goal.write_services-returns
write_services-returns t c =
    let tag = c.args.tag.now in
    let x = c.args.held.now in
    let start = start_tag tag in
    let content = inner (services_tree x) c.args.target.version (a_list services) in
    let same = services_made tag c.args.target.version x in
    appends_same c.args.writer.now c.write_close_tag.new.writer (start ∷ content ++ end_tag tag ∷ []) (spelled_events (services_tree x) c.args.target.version tag (a_list services)) c.write_close_tag.result same
    ((from c.args.writer.now ▸ (start ∷ [], c.in_ok-write_start_tag.ensures) ▸ (content, c.in_ok-write_items.ensures)).then_all c.write_close_tag.new.writer (end_tag tag ∷ []) c.write_close_tag.result c.write_close_tag.ensures)

pub write_items-loop-item-init : goal.write_items-loop-item-init
write_items-loop-item-init t c =
    sym (append-nil c.args.writer.now)

pub write_items-loop-item-preserved : goal.write_items-loop-item-preserved
write_items-loop-item-preserved t c =
    let x = c.item-item.result in
    item_written (writing_items (items_put service_tree (codes "service") (a_record service) c.args.target.version) c.deref-item-items.result.now c.loop-item.item-index c.args.writer.now c.loop-item.writer) c.write_service.new.writer x c.loop-item-test.true c.item-item.is c.loop-item.invariant
    (c.in_ok-write_service.ensures ∙ ap (λ s. c.loop-item.writer ++ s) (service_item (codes "service") c.args.target.version x))

pub write_items-returns-in_err-write_service : goal.write_items-returns-in_err-write_service
write_items-returns-in_err-write_service t c =
    let p = err_from_is_err_and c.from_residual.result c.from_residual.ensures.1 in
    let x = c.item-item.result in
    let f = items_put service_tree (codes "service") (a_record service) c.args.target.version in
    let new = c.write_service.new.writer in
    let all = flat_map f (service_items c.args.held.now) in
    rw (p.1, p.2) (appends_same c.args.writer.now new (all ++ []) (inner (services_tree c.args.held.now) c.args.target.version (a_list services)) (Err _) (append-nil all ∙ services_inner c.args.target.version c.args.held.now)
    (item_fails (writing_items f c.deref-item-items.result.now c.loop-item.item-index c.args.writer.now c.loop-item.writer) new [] (service_items c.args.held.now) x _ c.deref-item-items.ensures.value c.loop-item-test.true c.item-item.is c.loop-item.invariant
    (appends_same c.loop-item.writer new (spelled_events (service_tree x) c.args.target.version (codes "service") (a_record service)) (item_put (codes "service") (a_record service) (service_tree x) c.args.target.version) (Err _) (service_item (codes "service") c.args.target.version x) c.in_err-write_service.ensures)))

pub write_items-returns : goal.write_items-returns
write_items-returns t c =
    items_end (writing_items (items_put service_tree (codes "service") (a_record service) c.args.target.version) c.deref-item-items.result.now c.loop-item.item-index c.args.writer.now c.loop-item.writer) (service_items c.args.held.now) c.deref-item-items.ensures.value c.loop-item-test.false c.loop-item.invariant
    ∙ ap (λ s. c.args.writer.now ++ s) (services_inner c.args.target.version c.args.held.now)

pub write_rows-returns-in_err-write_naming_rows : goal.write_rows-returns-in_err-write_naming_rows
write_rows-returns-in_err-write_naming_rows t c =
    let p = err_from_is_err_and c.from_residual.result c.from_residual.ensures.1 in
    let g0 = rows_written (service_naming (out-Service c.args.held.now)) c.args.target.version (group 0 service) in
    let g1 = rows_written (service_access (out-Service c.args.held.now)) c.args.target.version (group 1 service) in
    let g2 = rows_written (service_contents services_tree (out-Service c.args.held.now)) c.args.target.version (group 2 service) in
    rw (p.1, p.2) (appends_same c.args.writer.now c.write_naming_rows.new.writer (g0 ++ (g1 ++ g2)) (rows_written (service_fields services_tree (out-Service c.args.held.now)) c.args.target.version (rows service)) (Err _) (service_in_groups (out-Service c.args.held.now) c.args.target.version)
    (first_fails c.args.writer.now c.write_naming_rows.new.writer g0 (g1 ++ g2) _ c.in_err-write_naming_rows.ensures))

pub write_rows-returns-in_err-write_access_rows : goal.write_rows-returns-in_err-write_access_rows
write_rows-returns-in_err-write_access_rows t c =
    let p = err_from_is_err_and c.from_residual-in_err-write_access_rows.result c.from_residual-in_err-write_access_rows.ensures.1 in
    let g0 = rows_written (service_naming (out-Service c.args.held.now)) c.args.target.version (group 0 service) in
    let g1 = rows_written (service_access (out-Service c.args.held.now)) c.args.target.version (group 1 service) in
    let g2 = rows_written (service_contents services_tree (out-Service c.args.held.now)) c.args.target.version (group 2 service) in
    rw (p.1, p.2) (appends_same c.args.writer.now c.write_access_rows.new.writer (g0 ++ (g1 ++ g2)) (rows_written (service_fields services_tree (out-Service c.args.held.now)) c.args.target.version (rows service)) (Err _) (service_in_groups (out-Service c.args.held.now) c.args.target.version)
    (then_fails (from c.args.writer.now ▸ (g0, c.in_ok-write_naming_rows.ensures)) c.write_access_rows.new.writer g1 g2 _ c.in_err-write_access_rows.ensures))

pub write_rows-returns : goal.write_rows-returns
write_rows-returns t c =
    let g0 = rows_written (service_naming (out-Service c.args.held.now)) c.args.target.version (group 0 service) in
    let g1 = rows_written (service_access (out-Service c.args.held.now)) c.args.target.version (group 1 service) in
    let g2 = rows_written (service_contents services_tree (out-Service c.args.held.now)) c.args.target.version (group 2 service) in
    appends_same c.args.writer.now c.write_contents_rows.new.writer (g0 ++ (g1 ++ g2)) (rows_written (service_fields services_tree (out-Service c.args.held.now)) c.args.target.version (rows service)) c.write_contents_rows.result (service_in_groups (out-Service c.args.held.now) c.args.target.version)
    ((from c.args.writer.now ▸ (g0, c.in_ok-write_naming_rows.ensures) ▸ (g1, c.in_ok-write_access_rows.ensures)).then_all c.write_contents_rows.new.writer g2 c.write_contents_rows.result c.write_contents_rows.ensures)

pub write_contents_rows-returns-in_err-put_child : goal.write_contents_rows-returns-in_err-put_child
unfolding rows_written rows list
write_contents_rows-returns-in_err-put_child t c =
    let p = err_from_is_err_and c.from_residual.result c.from_residual.ensures.1 in
    rw (p.1, p.2) (first_fails c.args.writer.now c.put_child.new.writer _ _ _ (c.in_err-put_child.ensures))

pub write_contents_rows-returns-in_err-put_services : goal.write_contents_rows-returns-in_err-put_services
unfolding rows_written rows list
write_contents_rows-returns-in_err-put_services t c =
    let p = err_from_is_err_and c.from_residual-in_err-put_services.result c.from_residual-in_err-put_services.ensures.1 in
    rw (p.1, p.2) (then_fails (from c.args.writer.now ▸ (_, c.in_ok-put_child.ensures)) c.put_services.new.writer _ _ _ c.in_err-put_services.ensures)

pub write_contents_rows-returns-in_err-put_child_since : goal.write_contents_rows-returns-in_err-put_child_since
unfolding rows_written rows list
write_contents_rows-returns-in_err-put_child_since t c =
    let p = err_from_is_err_and c.from_residual-in_err-put_child_since.result c.from_residual-in_err-put_child_since.ensures.1 in
    rw (p.1, p.2) (then_fails (from c.args.writer.now ▸ (_, c.in_ok-put_child.ensures) ▸ (_, c.in_ok-put_services.ensures)) c.put_child_since.new.writer _ _ _ c.in_err-put_child_since.ensures)

pub write_contents_rows-returns : goal.write_contents_rows-returns
unfolding rows_written rows list
write_contents_rows-returns t c =
    then_last (from c.args.writer.now ▸ (_, c.in_ok-put_child.ensures) ▸ (_, c.in_ok-put_services.ensures) ▸ (_, c.in_ok-put_child_since.ensures)) c.put_child_since-2.new.writer _ c.put_child_since-2.result c.put_child_since-2.ensures

pub put_services-returns-in-None : goal.put_services-returns-in-None
put_services-returns-in-None t c =
    rw c.in-None.is (nothing_added c.args.writer.now _ (child_none c.args.name.now (a_list services) c.args.target.version))

pub put_services-returns-in-Some : goal.put_services-returns-in-Some
put_services-returns-in-Some t c =
    let x = c.in-Some.held in
    rw c.in-Some.is (appends_same c.args.writer.now c.write_services.new.writer (spelled_events (services_tree x) c.args.target.version c.args.name.now (a_list services)) (child_written c.args.name.now (a_list services) (services_tree x) c.args.target.version) c.write_services.result
    (services_child c.args.name.now c.args.target.version x) c.write_services.ensures)
