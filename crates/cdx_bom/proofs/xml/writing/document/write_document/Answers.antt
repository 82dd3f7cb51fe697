use Rattle.std.proofs.Common.{Err, [], ◌∷◌, ◌++◌}
use Rattle.std.specs.Prelude.{codes}
use Rattle.std.proofs.lemmas.Result.{err_from_is_err_and}
use Rattle.cdx_events.specs.declared.event.XmlEvent.TheVariants.{StartDocument, EndDocument}
use Rattle.cdx_models.specs.Trees.{bill}
use Rattle.cdx_schema.specs.Table.{rows}
use Rattle.cdx_models.specs.Trees.{fields_of}
use Rattle.cdx_write.specs.WrittenRows.{rows_written}
use Rattle.cdx_write.specs.Writing.{end_tag}
use Rattle.cdx_write.proofs.Appended.{first_fails, from, then_fails, ◌▸◌}
use Rattle.cdx_write.proofs.RowWords.{appends_same}
use Rattle.cdx_bom.specs.BillWriting.{root_start, document_in}
use Rattle.cdx_bom.specs.Trees.{bom_tree}
use Rattle.cdx_bom.proofs.BillWritten.{document_is}
use Rattle.cdx_bom.proofs.xml.writing.document.write_document.Goals as goal

pub returns-in_err-write_start : goal.returns-in_err-write_start
returns-in_err-write_start c =
    let p = err_from_is_err_and c.from_residual.result c.from_residual.ensures.1 in
    let b = c.args.held.now in
    let w = c.args.target.version in
    let rows' = rows_written (fields_of (bom_tree b)) w (rows bill) in
    rw (p.1, p.2) (appends_same c.args.writer.now c.write_start.new.writer ((StartDocument ∷ []) ++ ((root_start (bom_tree b) w ∷ []) ++ (rows' ++ ((end_tag (codes "bom") ∷ []) ++ (EndDocument ∷ []))))) (document_in w (bom_tree b)) (Err _) (document_is b w)
    (first_fails c.args.writer.now c.write_start.new.writer (StartDocument ∷ []) ((root_start (bom_tree b) w ∷ []) ++ (rows' ++ ((end_tag (codes "bom") ∷ []) ++ (EndDocument ∷ [])))) _ c.in_err-write_start.ensures))

pub returns-in_err-write_root_start : goal.returns-in_err-write_root_start
returns-in_err-write_root_start c =
    let p = err_from_is_err_and c.from_residual-in_err-write_root_start.result c.from_residual-in_err-write_root_start.ensures.1 in
    let b = c.args.held.now in
    let w = c.args.target.version in
    let rows' = rows_written (fields_of (bom_tree b)) w (rows bill) in
    rw (p.1, p.2) (appends_same c.args.writer.now c.write_root_start.new.writer ((StartDocument ∷ []) ++ ((root_start (bom_tree b) w ∷ []) ++ (rows' ++ ((end_tag (codes "bom") ∷ []) ++ (EndDocument ∷ []))))) (document_in w (bom_tree b)) (Err _) (document_is b w)
    (then_fails (from c.args.writer.now ▸ (StartDocument ∷ [], c.in_ok-write_start.ensures)) c.write_root_start.new.writer (root_start (bom_tree b) w ∷ []) (rows' ++ ((end_tag (codes "bom") ∷ []) ++ (EndDocument ∷ []))) _ c.in_err-write_root_start.ensures))

pub returns-in_err-write_rows : goal.returns-in_err-write_rows
returns-in_err-write_rows c =
    let p = err_from_is_err_and c.from_residual-in_err-write_rows.result c.from_residual-in_err-write_rows.ensures.1 in
    let b = c.args.held.now in
    let w = c.args.target.version in
    let rows' = rows_written (fields_of (bom_tree b)) w (rows bill) in
    rw (p.1, p.2) (appends_same c.args.writer.now c.write_rows.new.writer ((StartDocument ∷ []) ++ ((root_start (bom_tree b) w ∷ []) ++ (rows' ++ ((end_tag (codes "bom") ∷ []) ++ (EndDocument ∷ []))))) (document_in w (bom_tree b)) (Err _) (document_is b w)
    (then_fails (from c.args.writer.now ▸ (StartDocument ∷ [], c.in_ok-write_start.ensures) ▸ (root_start (bom_tree b) w ∷ [], c.in_ok-write_root_start.ensures)) c.write_rows.new.writer rows' ((end_tag (codes "bom") ∷ []) ++ (EndDocument ∷ [])) _ c.in_err-write_rows.ensures))

pub returns-in_err-write_close_tag : goal.returns-in_err-write_close_tag
returns-in_err-write_close_tag c =
    let p = err_from_is_err_and c.from_residual-in_err-write_close_tag.result c.from_residual-in_err-write_close_tag.ensures.1 in
    let b = c.args.held.now in
    let w = c.args.target.version in
    let rows' = rows_written (fields_of (bom_tree b)) w (rows bill) in
    rw (p.1, p.2) (appends_same c.args.writer.now c.write_close_tag.new.writer ((StartDocument ∷ []) ++ ((root_start (bom_tree b) w ∷ []) ++ (rows' ++ ((end_tag (codes "bom") ∷ []) ++ (EndDocument ∷ []))))) (document_in w (bom_tree b)) (Err _) (document_is b w)
    (then_fails (from c.args.writer.now ▸ (StartDocument ∷ [], c.in_ok-write_start.ensures) ▸ (root_start (bom_tree b) w ∷ [], c.in_ok-write_root_start.ensures) ▸ (rows', c.in_ok-write_rows.ensures)) c.write_close_tag.new.writer (end_tag (codes "bom") ∷ []) (EndDocument ∷ []) _ c.in_err-write_close_tag.ensures))

pub returns : goal.returns
returns c =
    let b = c.args.held.now in
    let w = c.args.target.version in
    let rows' = rows_written (fields_of (bom_tree b)) w (rows bill) in
    appends_same c.args.writer.now c.write_end.new.writer ((StartDocument ∷ []) ++ ((root_start (bom_tree b) w ∷ []) ++ (rows' ++ ((end_tag (codes "bom") ∷ []) ++ (EndDocument ∷ []))))) (document_in w (bom_tree b)) c.write_end.result (document_is b w)
    ((from c.args.writer.now ▸ (StartDocument ∷ [], c.in_ok-write_start.ensures) ▸ (root_start (bom_tree b) w ∷ [], c.in_ok-write_root_start.ensures) ▸ (rows', c.in_ok-write_rows.ensures) ▸ (end_tag (codes "bom") ∷ [], c.in_ok-write_close_tag.ensures)).then_all c.write_end.new.writer (EndDocument ∷ []) c.write_end.result c.write_end.ensures)
