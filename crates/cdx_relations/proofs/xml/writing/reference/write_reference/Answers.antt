use Rattle.std.proofs.Common.{Err, [], ◌∷◌, ap, ◌∙◌}
use Rattle.std.proofs.lemmas.Result.{err_from_is_err_and}
use Rattle.cdx_models.specs.Trees.{text}
use Rattle.cdx_schema.specs.Kinds.{a_reference}
use Rattle.cdx_write.specs.Spelling.{spelled_events}
use Rattle.cdx_write.specs.Writing.{opening, end_tag}
use Rattle.cdx_write.proofs.Appended.{first_fails, then_all, all_added}
use Rattle.cdx_write.proofs.RowWords.{appends_same}
use Rattle.cdx_relations.proofs.Written.{reference_written}
use Rattle.cdx_relations.proofs.xml.writing.reference.write_reference.Goals as goal

pub returns-in_err-write_opening : goal.returns-in_err-write_opening
returns-in_err-write_opening c = λ w.
    let p = err_from_is_err_and c.from_residual-in_err-write_opening.result c.from_residual-in_err-write_opening.ensures.1 in
    let tag = c.args.tag.now in
    let start = opening tag c.push.new.self in
    let added = all_added c.new-attributes.result c.push.new.self _ c.new-attributes.ensures c.in_ok-push.ensures.ok in
    let same = ap (λ as'. opening tag as' ∷ end_tag tag ∷ []) added ∙ reference_written tag c.args.target.now c.in_ok-name.name c.in_ok-value.value w c.in_ok-name.ensures c.in_ok-value.ensures in
    rw (p.1, p.2) (appends_same c.args.writer.now c.write_opening.new.writer (start ∷ end_tag tag ∷ []) (spelled_events (text c.args.target.now) w tag a_reference) (Err _) same
    (first_fails c.args.writer.now c.write_opening.new.writer (start ∷ []) (end_tag tag ∷ []) _ c.in_err-write_opening.ensures))

pub returns : goal.returns
returns c = λ w.
    let tag = c.args.tag.now in
    let start = opening tag c.push.new.self in
    let added = all_added c.new-attributes.result c.push.new.self _ c.new-attributes.ensures c.in_ok-push.ensures.ok in
    let same = ap (λ as'. opening tag as' ∷ end_tag tag ∷ []) added ∙ reference_written tag c.args.target.now c.in_ok-name.name c.in_ok-value.value w c.in_ok-name.ensures c.in_ok-value.ensures in
    appends_same c.args.writer.now c.write_close_tag.new.writer (start ∷ end_tag tag ∷ []) (spelled_events (text c.args.target.now) w tag a_reference) c.write_close_tag.result same
    (then_all c.args.writer.now c.write_opening.new.writer c.write_close_tag.new.writer (start ∷ []) (end_tag tag ∷ []) c.write_close_tag.result c.in_ok-write_opening.ensures c.write_close_tag.ensures)
