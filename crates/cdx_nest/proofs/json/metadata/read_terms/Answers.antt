use Rattle.std.proofs.Common.{refl}
use Rattle.std.proofs.lemmas.Result.{err_from_is_err_and}
use Rattle.cdx_schema.specs.Table.{rows, list}
use Rattle.cdx_json.specs.ByRows.{rows_made}
use Rattle.cdx_json.proofs.Rows.{fails_then}
use Rattle.cdx_nest.proofs.json.metadata.read_terms.Goals as goal

pub returns-in_err-licenses : goal.returns-in_err-licenses
unfolding rows_made rows list
returns-in_err-licenses c =
    let p = err_from_is_err_and c.from_residual.result c.from_residual.ensures.1 in
    rw (p.1, p.2) (fails_then _ _ _ c.in_err-licenses.ensures)

pub returns-in_err-properties : goal.returns-in_err-properties
unfolding rows_made rows list
returns-in_err-properties c =
    let p = err_from_is_err_and c.from_residual-in_err-properties.result c.from_residual-in_err-properties.ensures.1 in
    rw (p.1, p.2, c.in_ok-licenses.ensures) (fails_then _ _ _ c.in_err-properties.ensures)

pub returns : goal.returns
unfolding rows_made rows list
returns c = rw (c.in_ok-licenses.ensures, c.in_ok-properties.ensures) refl
