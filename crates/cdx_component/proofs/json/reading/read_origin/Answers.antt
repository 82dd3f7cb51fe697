use Rattle.std.proofs.Common.{refl}
use Rattle.std.proofs.lemmas.Result.{err_from_is_err_and}
use Rattle.cdx_schema.specs.Table.{rows, list}
use Rattle.cdx_json.specs.ByRows.{rows_made}
use Rattle.cdx_json.proofs.Rows.{fails_then}
use Rattle.cdx_component.proofs.json.reading.read_origin.Goals as goal

pub returns-in_err-component_type : goal.returns-in_err-component_type
unfolding rows_made rows list
returns-in_err-component_type c =
    let p = err_from_is_err_and c.from_residual.result c.from_residual.ensures.1 in
    rw (p.1, p.2) (fails_then _ _ _ c.in_err-component_type.ensures)

pub returns-in_err-mime_type : goal.returns-in_err-mime_type
unfolding rows_made rows list
returns-in_err-mime_type c =
    let p = err_from_is_err_and c.from_residual-in_err-mime_type.result c.from_residual-in_err-mime_type.ensures.1 in
    rw (p.1, p.2, c.in_ok-component_type.ensures) (fails_then _ _ _ c.in_err-mime_type.ensures)

pub returns-in_err-bom_ref : goal.returns-in_err-bom_ref
unfolding rows_made rows list
returns-in_err-bom_ref c =
    let p = err_from_is_err_and c.from_residual-in_err-bom_ref.result c.from_residual-in_err-bom_ref.ensures.1 in
    rw (p.1, p.2, c.in_ok-component_type.ensures, c.in_ok-mime_type.ensures) (fails_then _ _ _ c.in_err-bom_ref.ensures)

pub returns-in_err-supplier : goal.returns-in_err-supplier
unfolding rows_made rows list
returns-in_err-supplier c =
    let p = err_from_is_err_and c.from_residual-in_err-supplier.result c.from_residual-in_err-supplier.ensures.1 in
    rw (p.1, p.2, c.in_ok-component_type.ensures, c.in_ok-mime_type.ensures, c.in_ok-bom_ref.ensures) (fails_then _ _ _ c.in_err-supplier.ensures)

pub returns-in_err-author : goal.returns-in_err-author
unfolding rows_made rows list
returns-in_err-author c =
    let p = err_from_is_err_and c.from_residual-in_err-author.result c.from_residual-in_err-author.ensures.1 in
    rw (p.1, p.2, c.in_ok-component_type.ensures, c.in_ok-mime_type.ensures, c.in_ok-bom_ref.ensures, c.in_ok-supplier.ensures) (fails_then _ _ _ c.in_err-author.ensures)

pub returns-in_err-publisher : goal.returns-in_err-publisher
unfolding rows_made rows list
returns-in_err-publisher c =
    let p = err_from_is_err_and c.from_residual-in_err-publisher.result c.from_residual-in_err-publisher.ensures.1 in
    rw (p.1, p.2, c.in_ok-component_type.ensures, c.in_ok-mime_type.ensures, c.in_ok-bom_ref.ensures, c.in_ok-supplier.ensures, c.in_ok-author.ensures) (fails_then _ _ _ c.in_err-publisher.ensures)

pub returns : goal.returns
unfolding rows_made rows list
returns c = rw (c.in_ok-component_type.ensures, c.in_ok-mime_type.ensures, c.in_ok-bom_ref.ensures, c.in_ok-supplier.ensures, c.in_ok-author.ensures, c.in_ok-publisher.ensures) refl
