use Rattle.std.proofs.Common.{refl}
use Rattle.std.proofs.lemmas.Result.{err_from_is_err_and}
use Rattle.cdx_schema.specs.Table.{rows, list}
use Rattle.cdx_json.specs.ByRows.{rows_made}
use Rattle.cdx_json.proofs.Rows.{fails_then}
use Rattle.cdx_component_parts.proofs.json.SwidJsonRecord.from_members.Goals as goal

pub returns-in_err-tag_id : goal.returns-in_err-tag_id
unfolding rows_made rows list
returns-in_err-tag_id c =
    let p = err_from_is_err_and c.from_residual.result c.from_residual.ensures.1 in
    rw (p.1, p.2) (fails_then _ _ _ c.in_err-tag_id.ensures)

pub returns-in_err-name : goal.returns-in_err-name
unfolding rows_made rows list
returns-in_err-name c =
    let p = err_from_is_err_and c.from_residual-in_err-name.result c.from_residual-in_err-name.ensures.1 in
    rw (p.1, p.2, c.in_ok-tag_id.ensures) (fails_then _ _ _ c.in_err-name.ensures)

pub returns-in_err-held_version : goal.returns-in_err-held_version
unfolding rows_made rows list
returns-in_err-held_version c =
    let p = err_from_is_err_and c.from_residual-in_err-held_version.result c.from_residual-in_err-held_version.ensures.1 in
    rw (p.1, p.2, c.in_ok-tag_id.ensures, c.in_ok-name.ensures) (fails_then _ _ _ c.in_err-held_version.ensures)

pub returns-in_err-tag_version : goal.returns-in_err-tag_version
unfolding rows_made rows list
returns-in_err-tag_version c =
    let p = err_from_is_err_and c.from_residual-in_err-tag_version.result c.from_residual-in_err-tag_version.ensures.1 in
    rw (p.1, p.2, c.in_ok-tag_id.ensures, c.in_ok-name.ensures, c.in_ok-held_version.ensures) (fails_then _ _ _ c.in_err-tag_version.ensures)

pub returns-in_err-patch : goal.returns-in_err-patch
unfolding rows_made rows list
returns-in_err-patch c =
    let p = err_from_is_err_and c.from_residual-in_err-patch.result c.from_residual-in_err-patch.ensures.1 in
    rw (p.1, p.2, c.in_ok-tag_id.ensures, c.in_ok-name.ensures, c.in_ok-held_version.ensures, c.in_ok-tag_version.ensures) (fails_then _ _ _ c.in_err-patch.ensures)

pub returns-in_err-text : goal.returns-in_err-text
unfolding rows_made rows list
returns-in_err-text c =
    let p = err_from_is_err_and c.from_residual-in_err-text.result c.from_residual-in_err-text.ensures.1 in
    rw (p.1, p.2, c.in_ok-tag_id.ensures, c.in_ok-name.ensures, c.in_ok-held_version.ensures, c.in_ok-tag_version.ensures, c.in_ok-patch.ensures) (fails_then _ _ _ c.in_err-text.ensures)

pub returns-in_err-url : goal.returns-in_err-url
unfolding rows_made rows list
returns-in_err-url c =
    let p = err_from_is_err_and c.from_residual-in_err-url.result c.from_residual-in_err-url.ensures.1 in
    rw (p.1, p.2, c.in_ok-tag_id.ensures, c.in_ok-name.ensures, c.in_ok-held_version.ensures, c.in_ok-tag_version.ensures, c.in_ok-patch.ensures, c.in_ok-text.ensures) (fails_then _ _ _ c.in_err-url.ensures)

pub returns : goal.returns
unfolding rows_made rows list
returns c = rw (c.in_ok-tag_id.ensures, c.in_ok-name.ensures, c.in_ok-held_version.ensures, c.in_ok-tag_version.ensures, c.in_ok-patch.ensures, c.in_ok-text.ensures, c.in_ok-url.ensures) refl
