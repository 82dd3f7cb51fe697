use Rattle.std.proofs.Common.{Err, [], ◌++◌, sym, ap, ◌∙◌}
use Rattle.std.specs.List.{flat_map}
use Rattle.std.proofs.lemmas.List.{append-nil}
use Rattle.std.proofs.lemmas.Result.{err_from_is_err_and}
use Rattle.cdx_models.specs.Trees.{list_tree}
use Rattle.cdx_schema.specs.Kinds.{a_list}
use Rattle.cdx_write.specs.Spelling.{inner}
use Rattle.cdx_write.proofs.Appended.{item_fails, items_end, writing_items}
use Rattle.cdx_write.proofs.RowWords.{appends_same}
use Rattle.cdx_write.proofs.Lists.{items_put, list_inner}
use Rattle.cdx_write.proofs.list.write_items.Goals as goal

pub loop-item-init : goal.loop-item-init
loop-item-init g c = sym (append-nil c.args.writer.now)

pub returns-in_err-write_item : goal.returns-in_err-write_item
returns-in_err-write_item g c = λ l is.
    let p = err_from_is_err_and c.from_residual.result c.from_residual.ensures.1 in
    let see = g.T.HasTree.tree in
    let f = items_put see c.args.tag.now g.T.Kinded.kind c.args.target.version in
    let new = c.write_item.new.writer in
    let all = flat_map f c.args.held.now in
    rw (p.1, p.2) (appends_same c.args.writer.now new (all ++ []) (inner (list_tree see c.args.held.now) c.args.target.version (a_list l)) (Err _) (append-nil all ∙ list_inner see c.args.tag.now g.T.Kinded.kind l c.args.target.version c.args.held.now is)
    (item_fails (writing_items f c.as_slice-item-items.result.now c.loop-item.item-index c.args.writer.now c.loop-item.writer) new [] c.args.held.now c.item-item.result _ c.as_slice-item-items.ensures c.loop-item-test.true c.item-item.is c.loop-item.invariant c.in_err-write_item.ensures))

pub returns : goal.returns
returns g c = λ l is.
    let see = g.T.HasTree.tree in
    let f = items_put see c.args.tag.now g.T.Kinded.kind c.args.target.version in
    items_end (writing_items f c.as_slice-item-items.result.now c.loop-item.item-index c.args.writer.now c.loop-item.writer) c.args.held.now c.as_slice-item-items.ensures c.loop-item-test.false c.loop-item.invariant
    ∙ ap (λ s. c.args.writer.now ++ s) (list_inner see c.args.tag.now g.T.Kinded.kind l c.args.target.version c.args.held.now is)
