use Rattle.std.proofs.Common.{refl}
use Rattle.std.proofs.lemmas.Result.{err_from_is_err_and}
use Rattle.cdx_schema.specs.Kinds.{endpoints}
use Rattle.cdx_schema.specs.Table.{rows, list}
use Rattle.cdx_json.specs.ByRows.{rows_made}
use Rattle.cdx_json.proofs.Rows.{fails_then}
use Rattle.cdx_service.proofs.json.reading.read_service_access.Goals as goal

pub returns-in_err-endpoints : goal.returns-in_err-endpoints
unfolding rows_made rows list
returns-in_err-endpoints c =
    let p = err_from_is_err_and c.from_residual.result c.from_residual.ensures.1 in
    rw (p.1, p.2) (fails_then _ _ _ (c.in_err-endpoints.ensures endpoints refl))

pub returns-in_err-authenticated : goal.returns-in_err-authenticated
unfolding rows_made rows list
returns-in_err-authenticated c =
    let p = err_from_is_err_and c.from_residual-in_err-authenticated.result c.from_residual-in_err-authenticated.ensures.1 in
    rw (p.1, p.2, (c.in_ok-endpoints.ensures endpoints refl)) (fails_then _ _ _ c.in_err-authenticated.ensures)

pub returns-in_err-x_trust_boundary : goal.returns-in_err-x_trust_boundary
unfolding rows_made rows list
returns-in_err-x_trust_boundary c =
    let p = err_from_is_err_and c.from_residual-in_err-x_trust_boundary.result c.from_residual-in_err-x_trust_boundary.ensures.1 in
    rw (p.1, p.2, (c.in_ok-endpoints.ensures endpoints refl), c.in_ok-authenticated.ensures) (fails_then _ _ _ c.in_err-x_trust_boundary.ensures)

pub returns-in_err-data_items : goal.returns-in_err-data_items
unfolding rows_made rows list
returns-in_err-data_items c =
    let p = err_from_is_err_and c.from_residual-in_err-data_items.result c.from_residual-in_err-data_items.ensures.1 in
    rw (p.1, p.2, (c.in_ok-endpoints.ensures endpoints refl), c.in_ok-authenticated.ensures, c.in_ok-x_trust_boundary.ensures) (fails_then _ _ _ c.in_err-data_items.ensures)

pub returns-in_err-licenses : goal.returns-in_err-licenses
unfolding rows_made rows list
returns-in_err-licenses c =
    let p = err_from_is_err_and c.from_residual-in_err-licenses.result c.from_residual-in_err-licenses.ensures.1 in
    rw (p.1, p.2, (c.in_ok-endpoints.ensures endpoints refl), c.in_ok-authenticated.ensures, c.in_ok-x_trust_boundary.ensures, c.in_ok-data_items.ensures) (fails_then _ _ _ c.in_err-licenses.ensures)

pub returns-in_err-external_references : goal.returns-in_err-external_references
unfolding rows_made rows list
returns-in_err-external_references c =
    let p = err_from_is_err_and c.from_residual-in_err-external_references.result c.from_residual-in_err-external_references.ensures.1 in
    rw (p.1, p.2, (c.in_ok-endpoints.ensures endpoints refl), c.in_ok-authenticated.ensures, c.in_ok-x_trust_boundary.ensures, c.in_ok-data_items.ensures, c.in_ok-licenses.ensures) (fails_then _ _ _ c.in_err-external_references.ensures)

pub returns : goal.returns
unfolding rows_made rows list
returns c = rw ((c.in_ok-endpoints.ensures endpoints refl), c.in_ok-authenticated.ensures, c.in_ok-x_trust_boundary.ensures, c.in_ok-data_items.ensures, c.in_ok-licenses.ensures, c.in_ok-external_references.ensures) refl
