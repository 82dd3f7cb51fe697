use Rattle.cdx_schema.specs.Table.{rows, list}
use Rattle.cdx_write.specs.WrittenRows.{rows_written}
use Rattle.cdx_write.proofs.Appended.{last_row}
use Rattle.cdx_license.proofs.xml.writing.ExpressionWrittenRecord.write_rows.Goals as goal

pub returns : goal.returns
unfolding rows_written rows list
returns c = last_row c.args.writer.now c.put_content.new.writer _ c.put_content.result (c.put_content.ensures c.args.target.version)
