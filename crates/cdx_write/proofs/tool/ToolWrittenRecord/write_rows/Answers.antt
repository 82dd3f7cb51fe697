use Rattle.cdx_schema.specs.Table.{rows, list}
use Rattle.cdx_write.specs.WrittenRows.{rows_written}
use Rattle.cdx_write.proofs.Appended.{from, then_last, ◌▸◌}
use Rattle.cdx_write.proofs.tool.ToolWrittenRecord.write_rows.Goals as goal

pub returns : goal.returns
unfolding rows_written rows list
returns c = then_last (from c.args.writer.now ▸ (_, c.in_ok-put_child.ensures) ▸ (_, c.in_ok-put_child-2.ensures) ▸ (_, c.in_ok-put_child-3.ensures) ▸ (_, c.in_ok-put_child-4.ensures)) c.put_child_since.new.writer _ c.put_child_since.result c.put_child_since.ensures
