use Rattle.std.proofs.Common.{Err, [], ◌++◌, sym, ap, ◌∙◌}
use Rattle.std.specs.List.{flat_map}
use Rattle.std.proofs.lemmas.List.{append-nil}
use Rattle.std.proofs.lemmas.Result.{err_from_is_err_and}
use Rattle.cdx_models.specs.Trees.{text, list_tree}
use Rattle.cdx_schema.specs.Kinds.{a_list, a_reference}
use Rattle.cdx_write.specs.Spelling.{spelled_events, inner}
use Rattle.cdx_write.specs.Listed.{item_put}
use Rattle.cdx_write.proofs.Appended.{item_fails, item_written, items_end, writing_items}
use Rattle.cdx_write.proofs.RowWords.{appends_same}
use Rattle.cdx_write.proofs.Lists.{items_put, list_inner}
use Rattle.cdx_relations.proofs.Written.{reference_item}
use Rattle.cdx_relations.proofs.xml.writing.reference.write_references.Goals as goal

pub loop-item-init : goal.loop-item-init
loop-item-init c = λ w. sym (append-nil c.args.writer.now)

pub loop-item-preserved : goal.loop-item-preserved
loop-item-preserved c = λ w.
    let tag = c.args.tag.now in
    let x = c.item-item.result in
    let f = items_put text tag a_reference w in
    item_written (writing_items f c.as_slice-item-items.result.now c.loop-item.item-index c.args.writer.now c.loop-item.writer) c.write_reference.new.writer x c.loop-item-test.true c.item-item.is (c.loop-item.invariant w)
    (c.in_ok-write_reference.ensures w ∙ ap (λ s. c.loop-item.writer ++ s) (reference_item tag x w))

pub returns-in_err-write_reference : goal.returns-in_err-write_reference
returns-in_err-write_reference c = λ w l is.
    let p = err_from_is_err_and c.from_residual.result c.from_residual.ensures.1 in
    let tag = c.args.tag.now in
    let x = c.item-item.result in
    let f = items_put text tag a_reference w in
    let new = c.write_reference.new.writer in
    let all = flat_map f c.args.held.now in
    rw (p.1, p.2) (appends_same c.args.writer.now new (all ++ []) (inner (list_tree text c.args.held.now) w (a_list l)) (Err _) (append-nil all ∙ list_inner text tag a_reference l w c.args.held.now is)
    (item_fails (writing_items f c.as_slice-item-items.result.now c.loop-item.item-index c.args.writer.now c.loop-item.writer) new [] c.args.held.now x _ c.as_slice-item-items.ensures c.loop-item-test.true c.item-item.is (c.loop-item.invariant w)
    (appends_same c.loop-item.writer new (spelled_events (text x) w tag a_reference) (item_put tag a_reference (text x) w) (Err _) (reference_item tag x w) (c.in_err-write_reference.ensures w))))

pub returns : goal.returns
returns c = λ w l is.
    let tag = c.args.tag.now in
    let f = items_put text tag a_reference w in
    items_end (writing_items f c.as_slice-item-items.result.now c.loop-item.item-index c.args.writer.now c.loop-item.writer) c.args.held.now c.as_slice-item-items.ensures c.loop-item-test.false (c.loop-item.invariant w)
    ∙ ap (λ s. c.args.writer.now ++ s) (list_inner text tag a_reference l w c.args.held.now is)
