use Rattle.std.proofs.Common.{refl}
use Rattle.std.proofs.lemmas.Result.{err_from_is_err_and}
use Rattle.cdx_schema.specs.Kinds.{authors}
use Rattle.cdx_schema.specs.Table.{rows, list}
use Rattle.cdx_json.specs.ByRows.{rows_made}
use Rattle.cdx_json.proofs.Rows.{fails_then}
use Rattle.cdx_nest.proofs.json.metadata.read_makers.Goals as goal

pub returns-in_err-timestamp : goal.returns-in_err-timestamp
unfolding rows_made rows list
returns-in_err-timestamp c =
    let p = err_from_is_err_and c.from_residual.result c.from_residual.ensures.1 in
    rw (p.1, p.2) (fails_then _ _ _ c.in_err-timestamp.ensures)

pub returns-in_err-tools : goal.returns-in_err-tools
unfolding rows_made rows list
returns-in_err-tools c =
    let p = err_from_is_err_and c.from_residual-in_err-tools.result c.from_residual-in_err-tools.ensures.1 in
    rw (p.1, p.2, c.in_ok-timestamp.ensures) (fails_then _ _ _ c.in_err-tools.ensures)

pub returns-in_err-authors : goal.returns-in_err-authors
unfolding rows_made rows list
returns-in_err-authors c =
    let p = err_from_is_err_and c.from_residual-in_err-authors.result c.from_residual-in_err-authors.ensures.1 in
    rw (p.1, p.2, c.in_ok-timestamp.ensures, c.in_ok-tools.ensures) (fails_then _ _ _ (c.in_err-authors.ensures authors refl))

pub returns-in_err-component : goal.returns-in_err-component
unfolding rows_made rows list
returns-in_err-component c =
    let p = err_from_is_err_and c.from_residual-in_err-component.result c.from_residual-in_err-component.ensures.1 in
    rw (p.1, p.2, c.in_ok-timestamp.ensures, c.in_ok-tools.ensures, (c.in_ok-authors.ensures authors refl)) (fails_then _ _ _ c.in_err-component.ensures)

pub returns-in-Err : goal.returns-in-Err
unfolding rows_made rows list
returns-in-Err c = rw (c.in_ok-timestamp.ensures, c.in_ok-tools.ensures, (c.in_ok-authors.ensures authors refl), c.in_ok-component.ensures) (fails_then _ _ _ c.in-Err.ensures)

pub returns-in-Err-optional_row : goal.returns-in-Err-optional_row
unfolding rows_made rows list
returns-in-Err-optional_row c = rw (c.in_ok-timestamp.ensures, c.in_ok-tools.ensures, (c.in_ok-authors.ensures authors refl), c.in_ok-component.ensures, c.in-Ok.ensures) (fails_then _ _ _ c.in-Err-optional_row.ensures)

pub returns : goal.returns
unfolding rows_made rows list
returns c = rw (c.in_ok-timestamp.ensures, c.in_ok-tools.ensures, (c.in_ok-authors.ensures authors refl), c.in_ok-component.ensures, c.in-Ok.ensures, c.in-Ok-optional_row.ensures) refl
