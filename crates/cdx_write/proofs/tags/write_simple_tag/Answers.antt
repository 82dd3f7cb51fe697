use Rattle.std.proofs.Common.{[], ◌∷◌}
use Rattle.std.proofs.lemmas.Result.{err_from_is_err_and}
use Rattle.cdx_events.specs.declared.event.XmlEvent.TheVariants.{Characters}
use Rattle.cdx_write.specs.Writing.{start_tag, end_tag}
use Rattle.cdx_write.proofs.Appended.{first_fails, from, then_fails, ◌▸◌}
use Rattle.cdx_write.proofs.tags.write_simple_tag.Goals as goal

pub returns-in_err-write_start_tag : goal.returns-in_err-write_start_tag
returns-in_err-write_start_tag c =
    let p = err_from_is_err_and c.from_residual.result c.from_residual.ensures.1 in
    let tag = c.args.tag.now in
    rw (p.1, p.2) (first_fails c.args.writer.now c.write_start_tag.new.writer (start_tag tag ∷ []) (Characters c.args.content.now ∷ end_tag tag ∷ []) _ c.in_err-write_start_tag.ensures)

pub returns-in_err-write_characters : goal.returns-in_err-write_characters
returns-in_err-write_characters c =
    let p = err_from_is_err_and c.from_residual-in_err-write_characters.result c.from_residual-in_err-write_characters.ensures.1 in
    let tag = c.args.tag.now in
    let text = Characters c.args.content.now in
    rw (p.1, p.2) (then_fails (from c.args.writer.now ▸ (start_tag tag ∷ [], c.in_ok-write_start_tag.ensures)) c.write_characters.new.writer (text ∷ []) (end_tag tag ∷ []) _ c.in_err-write_characters.ensures)
