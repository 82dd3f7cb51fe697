use Rattle.std.proofs.Common.{Err, ◌++◌}
use Rattle.std.proofs.lemmas.Result.{err_from_is_err_and}
use Rattle.cdx_models.specs.Trees.{bill}
use Rattle.cdx_schema.specs.Table.{rows}
use Rattle.cdx_schema.specs.Groups.{group}
use Rattle.cdx_models.specs.Trees.{fields_of}
use Rattle.cdx_write.specs.WrittenRows.{rows_written}
use Rattle.cdx_write.proofs.Appended.{first_fails, then_all}
use Rattle.cdx_write.proofs.RowWords.{appends_same}
use Rattle.cdx_bom.specs.Trees.{bom_tree, inventory_groups, relations}
use Rattle.cdx_bom.proofs.BillWritten.{both_groups}
use Rattle.cdx_bom.proofs.xml.writing.document.write_rows.Goals as goal

pub returns-in_err-write_inventory_rows : goal.returns-in_err-write_inventory_rows
returns-in_err-write_inventory_rows c =
    let p = err_from_is_err_and c.from_residual.result c.from_residual.ensures.1 in
    let b = c.args.held.now in
    let w = c.args.target.version in
    let front = rows_written (inventory_groups b) w (group 0 bill) in
    let back = rows_written (relations b) w (group 1 bill) in
    rw (p.1, p.2) (appends_same c.args.writer.now c.write_inventory_rows.new.writer (front ++ back) (rows_written (fields_of (bom_tree b)) w (rows bill)) (Err _) (both_groups b w)
    (first_fails c.args.writer.now c.write_inventory_rows.new.writer front back _ c.in_err-write_inventory_rows.ensures))

pub returns : goal.returns
returns c =
    let b = c.args.held.now in
    let w = c.args.target.version in
    let front = rows_written (inventory_groups b) w (group 0 bill) in
    let back = rows_written (relations b) w (group 1 bill) in
    appends_same c.args.writer.now c.write_relations_rows.new.writer (front ++ back) (rows_written (fields_of (bom_tree b)) w (rows bill)) c.write_relations_rows.result (both_groups b w)
    (then_all c.args.writer.now c.write_inventory_rows.new.writer c.write_relations_rows.new.writer front back c.write_relations_rows.result c.in_ok-write_inventory_rows.ensures c.write_relations_rows.ensures)
