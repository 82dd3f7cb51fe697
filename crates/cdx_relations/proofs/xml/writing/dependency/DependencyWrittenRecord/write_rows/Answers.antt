use Rattle.std.proofs.Common.{refl}
use Rattle.cdx_schema.specs.Kinds.{depended}
use Rattle.cdx_schema.specs.Table.{rows, list}
use Rattle.cdx_write.specs.WrittenRows.{rows_written}
use Rattle.cdx_write.proofs.Appended.{last_row}
use Rattle.cdx_relations.proofs.xml.writing.dependency.DependencyWrittenRecord.write_rows.Goals as goal

pub returns : goal.returns
unfolding rows_written rows list
returns c = last_row c.args.writer.now c.write_references.new.writer _ c.write_references.result (c.write_references.ensures c.args.target.version depended (refl, refl))
