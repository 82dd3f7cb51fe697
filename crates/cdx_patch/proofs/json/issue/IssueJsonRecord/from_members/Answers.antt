use Rattle.std.proofs.Common.{refl}
use Rattle.std.proofs.lemmas.Result.{err_from_is_err_and}
use Rattle.cdx_schema.specs.Kinds.{links}
use Rattle.cdx_schema.specs.Table.{rows, list}
use Rattle.cdx_json.specs.ByRows.{rows_made}
use Rattle.cdx_json.proofs.Rows.{fails_then}
use Rattle.cdx_patch.proofs.json.issue.IssueJsonRecord.from_members.Goals as goal

pub returns-in_err-name : goal.returns-in_err-name
unfolding rows_made rows list
returns-in_err-name c =
    let p = err_from_is_err_and c.from_residual-in_err-name.result c.from_residual-in_err-name.ensures.1 in
    rw (p.1, p.2, c.in_ok-issue_type.ensures, c.in_ok-id.ensures) (fails_then _ _ _ c.in_err-name.ensures)

pub returns-in_err-description : goal.returns-in_err-description
unfolding rows_made rows list
returns-in_err-description c =
    let p = err_from_is_err_and c.from_residual-in_err-description.result c.from_residual-in_err-description.ensures.1 in
    rw (p.1, p.2, c.in_ok-issue_type.ensures, c.in_ok-id.ensures, c.in_ok-name.ensures) (fails_then _ _ _ c.in_err-description.ensures)

pub returns-in_err-source : goal.returns-in_err-source
unfolding rows_made rows list
returns-in_err-source c =
    let p = err_from_is_err_and c.from_residual-in_err-source.result c.from_residual-in_err-source.ensures.1 in
    rw (p.1, p.2, c.in_ok-issue_type.ensures, c.in_ok-id.ensures, c.in_ok-name.ensures, c.in_ok-description.ensures) (fails_then _ _ _ c.in_err-source.ensures)

pub returns-in_err-references : goal.returns-in_err-references
unfolding rows_made rows list
returns-in_err-references c =
    let p = err_from_is_err_and c.from_residual-in_err-references.result c.from_residual-in_err-references.ensures.1 in
    rw (p.1, p.2, c.in_ok-issue_type.ensures, c.in_ok-id.ensures, c.in_ok-name.ensures, c.in_ok-description.ensures, c.in_ok-source.ensures) (fails_then _ _ _ (c.in_err-references.ensures links refl))

pub returns : goal.returns
unfolding rows_made rows list
returns c = rw (c.in_ok-issue_type.ensures, c.in_ok-id.ensures, c.in_ok-name.ensures, c.in_ok-description.ensures, c.in_ok-source.ensures, (c.in_ok-references.ensures links refl)) refl
