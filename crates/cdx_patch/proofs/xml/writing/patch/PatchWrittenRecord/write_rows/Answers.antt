use Rattle.std.proofs.Common.{refl}
use Rattle.cdx_schema.specs.Kinds.{resolved}
use Rattle.cdx_schema.specs.Table.{rows, list}
use Rattle.cdx_write.specs.WrittenRows.{rows_written}
use Rattle.cdx_write.proofs.Appended.{from, then_last, ◌▸◌}
use Rattle.cdx_patch.proofs.xml.writing.patch.PatchWrittenRecord.write_rows.Goals as goal

pub returns : goal.returns
unfolding rows_written rows list
returns c =
    then_last (from c.args.writer.now ▸ (_, c.in_ok-put_filled_child.ensures)) c.put_list.new.writer _ c.put_list.result (c.put_list.ensures resolved (refl, refl))
