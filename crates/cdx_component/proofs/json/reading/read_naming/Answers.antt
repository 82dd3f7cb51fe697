use Rattle.std.proofs.Common.{refl}
use Rattle.std.proofs.lemmas.Result.{err_from_is_err_and}
use Rattle.cdx_schema.specs.Table.{rows, list}
use Rattle.cdx_json.specs.ByRows.{rows_made}
use Rattle.cdx_json.proofs.Rows.{fails_then}
use Rattle.cdx_component.proofs.json.reading.read_naming.Goals as goal

pub returns-in_err-group : goal.returns-in_err-group
unfolding rows_made rows list
returns-in_err-group c =
    let p = err_from_is_err_and c.from_residual.result c.from_residual.ensures.1 in
    rw (p.1, p.2) (fails_then _ _ _ c.in_err-group.ensures)

pub returns-in_err-name : goal.returns-in_err-name
unfolding rows_made rows list
returns-in_err-name c =
    let p = err_from_is_err_and c.from_residual-in_err-name.result c.from_residual-in_err-name.ensures.1 in
    rw (p.1, p.2, c.in_ok-group.ensures) (fails_then _ _ _ c.in_err-name.ensures)

pub returns-in_err-held_version : goal.returns-in_err-held_version
unfolding rows_made rows list
returns-in_err-held_version c =
    let p = err_from_is_err_and c.from_residual-in_err-held_version.result c.from_residual-in_err-held_version.ensures.1 in
    rw (p.1, p.2, c.in_ok-group.ensures, c.in_ok-name.ensures) (fails_then _ _ _ c.in_err-held_version.ensures)

pub returns-in_err-description : goal.returns-in_err-description
unfolding rows_made rows list
returns-in_err-description c =
    let p = err_from_is_err_and c.from_residual-in_err-description.result c.from_residual-in_err-description.ensures.1 in
    rw (p.1, p.2, c.in_ok-group.ensures, c.in_ok-name.ensures, c.in_ok-held_version.ensures) (fails_then _ _ _ c.in_err-description.ensures)

pub returns-in_err-scope : goal.returns-in_err-scope
unfolding rows_made rows list
returns-in_err-scope c =
    let p = err_from_is_err_and c.from_residual-in_err-scope.result c.from_residual-in_err-scope.ensures.1 in
    rw (p.1, p.2, c.in_ok-group.ensures, c.in_ok-name.ensures, c.in_ok-held_version.ensures, c.in_ok-description.ensures) (fails_then _ _ _ c.in_err-scope.ensures)

pub returns-in_err-hashes : goal.returns-in_err-hashes
unfolding rows_made rows list
returns-in_err-hashes c =
    let p = err_from_is_err_and c.from_residual-in_err-hashes.result c.from_residual-in_err-hashes.ensures.1 in
    rw (p.1, p.2, c.in_ok-group.ensures, c.in_ok-name.ensures, c.in_ok-held_version.ensures, c.in_ok-description.ensures, c.in_ok-scope.ensures) (fails_then _ _ _ c.in_err-hashes.ensures)

pub returns : goal.returns
unfolding rows_made rows list
returns c = rw (c.in_ok-group.ensures, c.in_ok-name.ensures, c.in_ok-held_version.ensures, c.in_ok-description.ensures, c.in_ok-scope.ensures, c.in_ok-hashes.ensures) refl
