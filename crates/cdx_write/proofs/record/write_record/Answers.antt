use Rattle.std.proofs.Common.{Err, [], ◌∷◌, ◌++◌}
use Rattle.std.proofs.lemmas.Result.{err_from_is_err_and}
use Rattle.cdx_models.specs.Trees.{fields_of}
use Rattle.cdx_schema.specs.Kinds.{a_record}
use Rattle.cdx_schema.specs.Table.{rows}
use Rattle.cdx_write.specs.Spelling.{spelled_events}
use Rattle.cdx_write.specs.WrittenRows.{rows_written}
use Rattle.cdx_write.specs.Writing.{opening, end_tag}
use Rattle.cdx_write.proofs.Appended.{first_fails, from, then_fails, ◌▸◌}
use Rattle.cdx_write.proofs.RowWords.{appends_same}
use Rattle.cdx_write.proofs.RowsLaws.{record_made}
use Rattle.cdx_write.proofs.record.write_record.Goals as goal

pub returns-in_err-write_opening : goal.returns-in_err-write_opening
returns-in_err-write_opening g c =
    let p = err_from_is_err_and c.from_residual-in_err-write_opening.result c.from_residual-in_err-write_opening.ensures.1 in
    let tag = c.args.tag.now in
    let t = g.T.HasTree.tree c.args.held.now in
    let start = opening tag c.in_ok-attributes.attributes in
    let content = rows_written (fields_of t) c.args.target.version (rows g.T.Record.name) in
    let same = record_made g.T.Record.name t c.args.target.version tag c.in_ok-attributes.attributes (g.met.T.Record.is_record c.args.held.now) g.T.Record.plain c.in_ok-attributes.ensures in
    rw (p.1, p.2) (appends_same c.args.writer.now c.write_opening.new.writer (start ∷ content ++ end_tag tag ∷ []) (spelled_events t c.args.target.version tag (a_record g.T.Record.name)) (Err _) same
    (first_fails c.args.writer.now c.write_opening.new.writer (start ∷ []) (content ++ end_tag tag ∷ []) _ c.in_err-write_opening.ensures))

pub returns-in_err-write_rows : goal.returns-in_err-write_rows
returns-in_err-write_rows g c =
    let p = err_from_is_err_and c.from_residual-in_err-write_rows.result c.from_residual-in_err-write_rows.ensures.1 in
    let tag = c.args.tag.now in
    let t = g.T.HasTree.tree c.args.held.now in
    let start = opening tag c.in_ok-attributes.attributes in
    let content = rows_written (fields_of t) c.args.target.version (rows g.T.Record.name) in
    let same = record_made g.T.Record.name t c.args.target.version tag c.in_ok-attributes.attributes (g.met.T.Record.is_record c.args.held.now) g.T.Record.plain c.in_ok-attributes.ensures in
    rw (p.1, p.2) (appends_same c.args.writer.now c.write_rows.new.writer (start ∷ content ++ end_tag tag ∷ []) (spelled_events t c.args.target.version tag (a_record g.T.Record.name)) (Err _) same
    (then_fails (from c.args.writer.now ▸ (start ∷ [], c.in_ok-write_opening.ensures)) c.write_rows.new.writer content (end_tag tag ∷ []) _ c.in_err-write_rows.ensures))

pub returns : goal.returns
returns g c =
    let tag = c.args.tag.now in
    let t = g.T.HasTree.tree c.args.held.now in
    let new = c.write_close_tag.new.writer in
    let start = opening tag c.in_ok-attributes.attributes in
    let content = rows_written (fields_of t) c.args.target.version (rows g.T.Record.name) in
    let same = record_made g.T.Record.name t c.args.target.version tag c.in_ok-attributes.attributes (g.met.T.Record.is_record c.args.held.now) g.T.Record.plain c.in_ok-attributes.ensures in
    appends_same c.args.writer.now new (start ∷ content ++ end_tag tag ∷ []) (spelled_events t c.args.target.version tag (a_record g.T.Record.name)) c.write_close_tag.result same
    ((from c.args.writer.now ▸ (start ∷ [], c.in_ok-write_opening.ensures) ▸ (content, c.in_ok-write_rows.ensures)).then_all new (end_tag tag ∷ []) c.write_close_tag.result c.write_close_tag.ensures)
