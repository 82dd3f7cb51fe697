use Rattle.std.proofs.Common.{refl}
use Rattle.std.proofs.lemmas.Result.{err_from_is_err_and}
use Rattle.cdx_schema.specs.Table.{rows, list}
use Rattle.cdx_json.specs.ByRows.{rows_made}
use Rattle.cdx_json.proofs.Rows.{fails_then}
use Rattle.cdx_component.proofs.json.reading.read_marks.Goals as goal

pub returns-in_err-licenses : goal.returns-in_err-licenses
unfolding rows_made rows list
returns-in_err-licenses c =
    let p = err_from_is_err_and c.from_residual.result c.from_residual.ensures.1 in
    rw (p.1, p.2) (fails_then _ _ _ c.in_err-licenses.ensures)

pub returns-in_err-copyright : goal.returns-in_err-copyright
unfolding rows_made rows list
returns-in_err-copyright c =
    let p = err_from_is_err_and c.from_residual-in_err-copyright.result c.from_residual-in_err-copyright.ensures.1 in
    rw (p.1, p.2, c.in_ok-licenses.ensures) (fails_then _ _ _ c.in_err-copyright.ensures)

pub returns-in_err-cpe : goal.returns-in_err-cpe
unfolding rows_made rows list
returns-in_err-cpe c =
    let p = err_from_is_err_and c.from_residual-in_err-cpe.result c.from_residual-in_err-cpe.ensures.1 in
    rw (p.1, p.2, c.in_ok-licenses.ensures, c.in_ok-copyright.ensures) (fails_then _ _ _ c.in_err-cpe.ensures)

pub returns-in_err-purl : goal.returns-in_err-purl
unfolding rows_made rows list
returns-in_err-purl c =
    let p = err_from_is_err_and c.from_residual-in_err-purl.result c.from_residual-in_err-purl.ensures.1 in
    rw (p.1, p.2, c.in_ok-licenses.ensures, c.in_ok-copyright.ensures, c.in_ok-cpe.ensures) (fails_then _ _ _ c.in_err-purl.ensures)

pub returns-in_err-swid : goal.returns-in_err-swid
unfolding rows_made rows list
returns-in_err-swid c =
    let p = err_from_is_err_and c.from_residual-in_err-swid.result c.from_residual-in_err-swid.ensures.1 in
    rw (p.1, p.2, c.in_ok-licenses.ensures, c.in_ok-copyright.ensures, c.in_ok-cpe.ensures, c.in_ok-purl.ensures) (fails_then _ _ _ c.in_err-swid.ensures)

pub returns-in_err-modified : goal.returns-in_err-modified
unfolding rows_made rows list
returns-in_err-modified c =
    let p = err_from_is_err_and c.from_residual-in_err-modified.result c.from_residual-in_err-modified.ensures.1 in
    rw (p.1, p.2, c.in_ok-licenses.ensures, c.in_ok-copyright.ensures, c.in_ok-cpe.ensures, c.in_ok-purl.ensures, c.in_ok-swid.ensures) (fails_then _ _ _ c.in_err-modified.ensures)

pub returns : goal.returns
unfolding rows_made rows list
returns c = rw (c.in_ok-licenses.ensures, c.in_ok-copyright.ensures, c.in_ok-cpe.ensures, c.in_ok-purl.ensures, c.in_ok-swid.ensures, c.in_ok-modified.ensures) refl
