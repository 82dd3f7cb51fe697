use Rattle.std.proofs.Common.{refl, sym}
use Rattle.std.proofs.lemmas.Result.{err_from_is_err_and}
use Rattle.cdx_schema.specs.Table.{rows, list}
use Rattle.cdx_json.specs.ByRows.{rows_made}
use Rattle.cdx_json.proofs.Rows.{fails_then}
use Rattle.cdx_license.proofs.json.LicenseJsonRecord.from_members.Goals as goal

pub returns-in_err-text : goal.returns-in_err-text
unfolding rows_made rows list
returns-in_err-text c =
    let p = err_from_is_err_and c.from_residual-in_err-text.result c.from_residual-in_err-text.ensures.1 in
    rw (p.1, p.2, sym c.first_or_old-reference.ensures, c.in_ok-bom_ref.ensures, c.in_ok-license_identifier.ensures) (fails_then _ _ _ c.in_err-text.ensures)

pub returns-in_err-url : goal.returns-in_err-url
unfolding rows_made rows list
returns-in_err-url c =
    let p = err_from_is_err_and c.from_residual-in_err-url.result c.from_residual-in_err-url.ensures.1 in
    rw (p.1, p.2, sym c.first_or_old-reference.ensures, c.in_ok-bom_ref.ensures, c.in_ok-license_identifier.ensures, c.in_ok-text.ensures) (fails_then _ _ _ c.in_err-url.ensures)

pub returns-in_err-properties : goal.returns-in_err-properties
unfolding rows_made rows list
returns-in_err-properties c =
    let p = err_from_is_err_and c.from_residual-in_err-properties.result c.from_residual-in_err-properties.ensures.1 in
    rw (p.1, p.2, sym c.first_or_old-reference.ensures, c.in_ok-bom_ref.ensures, c.in_ok-license_identifier.ensures, c.in_ok-text.ensures, c.in_ok-url.ensures) (fails_then _ _ _ c.in_err-properties.ensures)

pub returns : goal.returns
unfolding rows_made rows list
returns c = rw (sym c.first_or_old-reference.ensures, c.in_ok-bom_ref.ensures, c.in_ok-license_identifier.ensures, c.in_ok-text.ensures, c.in_ok-url.ensures, c.in_ok-properties.ensures) refl
