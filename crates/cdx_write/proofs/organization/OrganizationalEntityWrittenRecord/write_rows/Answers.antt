use Rattle.std.proofs.Common.{refl}
use Rattle.std.proofs.lemmas.Result.{err_from_is_err_and}
use Rattle.cdx_schema.specs.Kinds.{urls, contacts}
use Rattle.cdx_schema.specs.Table.{rows, list}
use Rattle.cdx_write.specs.WrittenRows.{rows_written}
use Rattle.cdx_write.proofs.Appended.{first_fails, from, then_fails, then_last, ◌▸◌}
use Rattle.cdx_write.proofs.organization.OrganizationalEntityWrittenRecord.write_rows.Goals as goal

pub returns-in_err-put_child : goal.returns-in_err-put_child
unfolding rows_written rows list
returns-in_err-put_child c =
    let p = err_from_is_err_and c.from_residual.result c.from_residual.ensures.1 in
    rw (p.1, p.2) (first_fails c.args.writer.now c.put_child.new.writer _ _ _ (c.in_err-put_child.ensures))

pub returns-in_err-put_each : goal.returns-in_err-put_each
unfolding rows_written rows list
returns-in_err-put_each c =
    let p = err_from_is_err_and c.from_residual-in_err-put_each.result c.from_residual-in_err-put_each.ensures.1 in
    rw (p.1, p.2) (then_fails (from c.args.writer.now ▸ (_, c.in_ok-put_child.ensures)) c.put_each.new.writer _ _ _ (c.in_err-put_each.ensures urls (refl, refl)))

pub returns : goal.returns
unfolding rows_written rows list
returns c = then_last (from c.args.writer.now ▸ (_, c.in_ok-put_child.ensures) ▸ (_, c.in_ok-put_each.ensures urls (refl, refl))) c.put_each-2.new.writer _ c.put_each-2.result (c.put_each-2.ensures contacts (refl, refl))
