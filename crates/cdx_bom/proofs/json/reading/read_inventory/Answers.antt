use Rattle.std.proofs.Common.{refl}
use Rattle.std.proofs.lemmas.Result.{err_from_is_err_and}
use Rattle.cdx_schema.specs.Table.{rows, list}
use Rattle.cdx_json.specs.ByRows.{rows_made, member_of}
use Rattle.cdx_json.proofs.Rows.{fails_then}
use Rattle.cdx_bom.proofs.json.reading.read_inventory.Goals as goal

pub returns-in_err-label : goal.returns-in_err-label
unfolding rows_made rows list member_of
returns-in_err-label c = λ held h.
    let p = err_from_is_err_and c.from_residual.result c.from_residual.ensures.1 in
    rw (p.1, p.2) (fails_then _ _ _ c.in_err-label.ensures)

pub returns-in_err-bill_version : goal.returns-in_err-bill_version
unfolding rows_made rows list member_of
returns-in_err-bill_version c = λ held h.
    let p = err_from_is_err_and c.from_residual-in_err-bill_version.result c.from_residual-in_err-bill_version.ensures.1 in
    rw (p.1, p.2, c.in_ok-label.ensures) (fails_then _ _ _ c.in_err-bill_version.ensures)

pub returns-in_err-serial_number : goal.returns-in_err-serial_number
unfolding rows_made rows list member_of
returns-in_err-serial_number c = λ held h.
    let p = err_from_is_err_and c.from_residual-in_err-serial_number.result c.from_residual-in_err-serial_number.ensures.1 in
    rw (p.1, p.2, c.in_ok-label.ensures, c.in_ok-bill_version.ensures) (fails_then _ _ _ c.in_err-serial_number.ensures)

pub returns-in_err-metadata : goal.returns-in_err-metadata
unfolding rows_made rows list member_of
returns-in_err-metadata c = λ held h.
    let p = err_from_is_err_and c.from_residual-in_err-metadata.result c.from_residual-in_err-metadata.ensures.1 in
    rw (p.1, p.2, c.in_ok-label.ensures, c.in_ok-bill_version.ensures, c.in_ok-serial_number.ensures) (fails_then _ _ _ c.in_err-metadata.ensures)

pub returns-in-Err : goal.returns-in-Err
unfolding rows_made rows list member_of
returns-in-Err c = λ held h. rw (c.in_ok-label.ensures, c.in_ok-bill_version.ensures, c.in_ok-serial_number.ensures, c.in_ok-metadata.ensures) (fails_then _ _ _ (rw c.in-Err.is at (h)))

pub returns-in-Err-optional_row : goal.returns-in-Err-optional_row
unfolding rows_made rows list member_of
returns-in-Err-optional_row c = λ held h. rw (c.in_ok-label.ensures, c.in_ok-bill_version.ensures, c.in_ok-serial_number.ensures, c.in_ok-metadata.ensures, rw c.in-Ok.is at h) (fails_then _ _ _ c.in-Err-optional_row.ensures)

pub returns : goal.returns
unfolding rows_made rows list member_of
returns c = λ held h. rw (c.in_ok-label.ensures, c.in_ok-bill_version.ensures, c.in_ok-serial_number.ensures, c.in_ok-metadata.ensures, rw c.in-Ok.is at h, c.in-Ok-optional_row.ensures) refl
