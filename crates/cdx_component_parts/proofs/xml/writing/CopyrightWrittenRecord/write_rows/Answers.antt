use Rattle.cdx_schema.specs.Table.{rows, list}
use Rattle.cdx_write.specs.WrittenRows.{rows_written}
use Rattle.cdx_write.proofs.Appended.{last_row}
use Rattle.cdx_component_parts.proofs.xml.writing.CopyrightWrittenRecord.write_rows.Goals as goal

pub returns : goal.returns
unfolding rows_written rows list
returns c = last_row c.args.writer.now c.put_cdata.new.writer _ c.put_cdata.result (c.put_cdata.ensures c.args.target.version)
