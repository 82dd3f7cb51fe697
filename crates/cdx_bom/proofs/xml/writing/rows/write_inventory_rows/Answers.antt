use Rattle.std.proofs.lemmas.Result.{err_from_is_err_and}
use Rattle.cdx_schema.specs.Table.{rows, list}
use Rattle.cdx_write.specs.WrittenRows.{rows_written}
use Rattle.cdx_write.proofs.Appended.{first_fails, from, then_fails, then_last, ◌▸◌}
use Rattle.cdx_bom.proofs.xml.writing.rows.write_inventory_rows.Goals as goal

pub returns-in_err-put_child : goal.returns-in_err-put_child
unfolding rows_written rows list
returns-in_err-put_child c =
    let p = err_from_is_err_and c.from_residual.result c.from_residual.ensures.1 in
    rw (p.1, p.2) (first_fails c.args.writer.now c.put_child.new.writer _ _ _ (c.in_err-put_child.ensures))

pub returns-in_err-put_child-2 : goal.returns-in_err-put_child-2
unfolding rows_written rows list
returns-in_err-put_child-2 c =
    let p = err_from_is_err_and c.from_residual-in_err-put_child-2.result c.from_residual-in_err-put_child-2.ensures.1 in
    rw (p.1, p.2) (then_fails (from c.args.writer.now ▸ (_, c.in_ok-put_child.ensures)) c.put_child-2.new.writer _ _ _ c.in_err-put_child-2.ensures)

pub returns : goal.returns
unfolding rows_written rows list
returns c = then_last (from c.args.writer.now ▸ (_, c.in_ok-put_child.ensures) ▸ (_, c.in_ok-put_child-2.ensures)) c.put_child-3.new.writer _ c.put_child-3.result c.put_child-3.ensures
