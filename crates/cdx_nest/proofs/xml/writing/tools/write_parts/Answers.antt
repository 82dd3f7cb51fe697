use Rattle.std.proofs.Common.{Err}
use Rattle.std.proofs.lemmas.Result.{err_from_is_err_and}
use Rattle.cdx_schema.specs.Table.{rows}
use Rattle.cdx_models.specs.Trees.{fields_of}
use Rattle.cdx_write.specs.WrittenRows.{rows_written}
use Rattle.cdx_write.proofs.Appended.{first_fails, from, then_last, ◌▸◌}
use Rattle.cdx_write.proofs.RowWords.{appends_same, nothing_added}
use Rattle.cdx_nest.specs.Trees.{object_tree}
use Rattle.cdx_nest.proofs.WriteTools.{early_inner, late_inner}
use Rattle.cdx_nest.proofs.xml.writing.tools.write_parts.Goals as goal

pub returns-then-not-is_known_to : goal.returns-then-not-is_known_to
returns-then-not-is_known_to c =
    nothing_added c.args.writer.now _ (early_inner c.args.target.version c.is_known_to.result (fields_of (object_tree c.args.services.now c.args.components.now)) c.is_known_to.ensures c.if-not-is_known_to.true)

pub returns-in_err-put_child : goal.returns-in_err-put_child
unfolding rows_written rows
returns-in_err-put_child c =
    let p = err_from_is_err_and c.from_residual.result c.from_residual.ensures.1 in
    rw (p.1, p.2) (appends_same c.args.writer.now c.put_child.new.writer _ _ (Err _) (late_inner c.args.target.version c.is_known_to.result (fields_of (object_tree c.args.services.now c.args.components.now)) c.is_known_to.ensures c.if-not-is_known_to.false)
    (first_fails c.args.writer.now c.put_child.new.writer _ _ _ c.in_err-put_child.ensures))

pub returns : goal.returns
unfolding rows_written rows
returns c =
    appends_same c.args.writer.now c.put_child-2.new.writer _ _ c.put_child-2.result (late_inner c.args.target.version c.is_known_to.result (fields_of (object_tree c.args.services.now c.args.components.now)) c.is_known_to.ensures c.if-not-is_known_to.false)
    (then_last (from c.args.writer.now ▸ (_, c.in_ok-put_child.ensures)) c.put_child-2.new.writer _ c.put_child-2.result c.put_child-2.ensures)
