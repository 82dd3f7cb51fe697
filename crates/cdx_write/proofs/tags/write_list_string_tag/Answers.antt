use Rattle.std.proofs.Common.{Err, [], ◌∷◌, ◌++◌, refl, sym, ap, ◌∙◌}
use Rattle.std.specs.List.{flat_map}
use Rattle.std.proofs.lemmas.List.{append-nil}
use Rattle.std.proofs.lemmas.Result.{err_from_is_err_and}
use Rattle.cdx_write.specs.Writing.{simple_tag}
use Rattle.cdx_write.specs.Writing.{start_tag, end_tag}
use Rattle.cdx_write.proofs.Appended.{first_fails, then_all, item_fails, items_end, from, ◌▸◌, writing_items}
use Rattle.cdx_write.proofs.RowWords.{appends_same}
use Rattle.cdx_write.proofs.tags.write_list_string_tag.Goals as goal

pub returns-in_err-write_start_tag : goal.returns-in_err-write_start_tag
returns-in_err-write_start_tag c =
    let p = err_from_is_err_and c.from_residual.result c.from_residual.ensures.1 in
    let tag = c.args.tag.now in
    rw (p.1, p.2) (first_fails c.args.writer.now c.write_start_tag.new.writer (start_tag tag ∷ []) (flat_map (simple_tag c.args.child_tag.now) c.args.list.now ++ end_tag tag ∷ []) _ c.in_err-write_start_tag.ensures)

pub loop-item-init : goal.loop-item-init
loop-item-init c = c.in_ok-write_start_tag.ensures ∙ sym (append-nil (c.args.writer.now ++ start_tag c.args.tag.now ∷ []))

pub returns-in_err-write_simple_tag : goal.returns-in_err-write_simple_tag
returns-in_err-write_simple_tag c =
    let p = err_from_is_err_and c.from_residual-in_err-write_simple_tag.result c.from_residual-in_err-write_simple_tag.ensures.1 in
    let tag = c.args.tag.now in
    let begun = c.args.writer.now ++ start_tag tag ∷ [] in
    let new = c.write_simple_tag.new.writer in
    rw (p.1, p.2) (then_all c.args.writer.now begun new (start_tag tag ∷ []) (flat_map (simple_tag c.args.child_tag.now) c.args.list.now ++ end_tag tag ∷ []) (Err _) refl
    (item_fails (writing_items (simple_tag c.args.child_tag.now) c.as_slice-item-items.result.now c.loop-item.item-index begun c.loop-item.writer) new (end_tag tag ∷ []) c.args.list.now c.item-item.result _ c.as_slice-item-items.ensures c.loop-item-test.true c.item-item.is c.loop-item.invariant
    (appends_same c.loop-item.writer new (simple_tag c.args.child_tag.now c.as_str.result.now) (simple_tag c.args.child_tag.now c.item-item.result) (Err _) (ap (simple_tag c.args.child_tag.now) c.as_str.ensures) c.in_err-write_simple_tag.ensures)))

pub returns : goal.returns
returns c =
    let tag = c.args.tag.now in
    let begun = c.args.writer.now ++ start_tag tag ∷ [] in
    let new = c.write_close_tag.new.writer in
    let all = items_end (writing_items (simple_tag c.args.child_tag.now) c.as_slice-item-items.result.now c.loop-item.item-index begun c.loop-item.writer) c.args.list.now c.as_slice-item-items.ensures c.loop-item-test.false c.loop-item.invariant in
    (from c.args.writer.now ▸ (start_tag tag ∷ [], refl) ▸ (flat_map (simple_tag c.args.child_tag.now) c.args.list.now, all)).then_all new (end_tag tag ∷ []) c.write_close_tag.result c.write_close_tag.ensures
