use Rattle.std.proofs.Common.{[], ◌∷◌, ◌++◌}
use Rattle.std.proofs.lemmas.Result.{err_from_is_err_and}
use Rattle.cdx_models.specs.Trees.{list_tree}
use Rattle.cdx_signature.specs.Records.{signer_tree}
use Rattle.cdx_schema.specs.Kinds.{a_list}
use Rattle.cdx_write.specs.Spelling.{spelled_events}
use Rattle.cdx_write.specs.Writing.{start_tag, end_tag}
use Rattle.cdx_write.proofs.Appended.{first_fails, from, then_fails, ◌▸◌}
use Rattle.cdx_signature.proofs.xml.writing.write_signers.Goals as goal

pub returns-in_err-write_start_tag : goal.returns-in_err-write_start_tag
returns-in_err-write_start_tag c = λ l is.
    let p = err_from_is_err_and c.from_residual.result c.from_residual.ensures.1 in
    let tag = c.args.tag.now in
    let content = spelled_events (list_tree signer_tree c.args.held.now) c.args.target.version c.args.name.now (a_list l) in
    rw (p.1, p.2) (first_fails c.args.writer.now c.write_start_tag.new.writer (start_tag tag ∷ []) (content ++ end_tag tag ∷ []) _ c.in_err-write_start_tag.ensures)

pub returns-in_err-write_list : goal.returns-in_err-write_list
returns-in_err-write_list c = λ l is.
    let p = err_from_is_err_and c.from_residual-in_err-write_list.result c.from_residual-in_err-write_list.ensures.1 in
    let tag = c.args.tag.now in
    let new = c.write_list.new.writer in
    let content = spelled_events (list_tree signer_tree c.args.held.now) c.args.target.version c.args.name.now (a_list l) in
    rw (p.1, p.2) (then_fails (from c.args.writer.now ▸ (start_tag tag ∷ [], c.in_ok-write_start_tag.ensures)) new content (end_tag tag ∷ []) _ (c.in_err-write_list.ensures l is))

pub returns : goal.returns
returns c = λ l is.
    let tag = c.args.tag.now in
    let new = c.write_close_tag.new.writer in
    let content = spelled_events (list_tree signer_tree c.args.held.now) c.args.target.version c.args.name.now (a_list l) in
    (from c.args.writer.now ▸ (start_tag tag ∷ [], c.in_ok-write_start_tag.ensures) ▸ (content, c.in_ok-write_list.ensures l is)).then_all new (end_tag tag ∷ []) c.write_close_tag.result c.write_close_tag.ensures
