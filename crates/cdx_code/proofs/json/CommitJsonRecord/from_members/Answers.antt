use Rattle.std.proofs.Common.{refl}
use Rattle.std.proofs.lemmas.Result.{err_from_is_err_and}
use Rattle.cdx_schema.specs.Table.{rows, list}
use Rattle.cdx_json.specs.ByRows.{rows_made}
use Rattle.cdx_json.proofs.Rows.{fails_then}
use Rattle.cdx_code.proofs.json.CommitJsonRecord.from_members.Goals as goal

pub returns-in_err-author : goal.returns-in_err-author
unfolding rows_made rows list
returns-in_err-author c =
    let p = err_from_is_err_and c.from_residual-in_err-author.result c.from_residual-in_err-author.ensures.1 in
    rw (p.1, p.2, c.in_ok-uid.ensures, c.in_ok-url.ensures) (fails_then _ _ _ c.in_err-author.ensures)

pub returns-in_err-committer : goal.returns-in_err-committer
unfolding rows_made rows list
returns-in_err-committer c =
    let p = err_from_is_err_and c.from_residual-in_err-committer.result c.from_residual-in_err-committer.ensures.1 in
    rw (p.1, p.2, c.in_ok-uid.ensures, c.in_ok-url.ensures, c.in_ok-author.ensures) (fails_then _ _ _ c.in_err-committer.ensures)

pub returns-in_err-message : goal.returns-in_err-message
unfolding rows_made rows list
returns-in_err-message c =
    let p = err_from_is_err_and c.from_residual-in_err-message.result c.from_residual-in_err-message.ensures.1 in
    rw (p.1, p.2, c.in_ok-uid.ensures, c.in_ok-url.ensures, c.in_ok-author.ensures, c.in_ok-committer.ensures) (fails_then _ _ _ c.in_err-message.ensures)

pub returns : goal.returns
unfolding rows_made rows list
returns c = rw (c.in_ok-uid.ensures, c.in_ok-url.ensures, c.in_ok-author.ensures, c.in_ok-committer.ensures, c.in_ok-message.ensures) refl
