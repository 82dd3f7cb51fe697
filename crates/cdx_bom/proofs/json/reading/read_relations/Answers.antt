use Rattle.std.proofs.Common.{refl}
use Rattle.std.proofs.lemmas.Result.{err_from_is_err_and}
use Rattle.cdx_schema.specs.Table.{rows, list}
use Rattle.cdx_json.specs.ByRows.{rows_made}
use Rattle.cdx_json.proofs.Rows.{fails_then}
use Rattle.cdx_bom.proofs.json.reading.read_relations.Goals as goal

pub returns-in_err-external_references : goal.returns-in_err-external_references
unfolding rows_made rows list
returns-in_err-external_references c =
    let p = err_from_is_err_and c.from_residual.result c.from_residual.ensures.1 in
    rw (p.1, p.2) (fails_then _ _ _ c.in_err-external_references.ensures)

pub returns-in_err-dependencies : goal.returns-in_err-dependencies
unfolding rows_made rows list
returns-in_err-dependencies c =
    let p = err_from_is_err_and c.from_residual-in_err-dependencies.result c.from_residual-in_err-dependencies.ensures.1 in
    rw (p.1, p.2, c.in_ok-external_references.ensures) (fails_then _ _ _ c.in_err-dependencies.ensures)

pub returns-in_err-compositions : goal.returns-in_err-compositions
unfolding rows_made rows list
returns-in_err-compositions c =
    let p = err_from_is_err_and c.from_residual-in_err-compositions.result c.from_residual-in_err-compositions.ensures.1 in
    rw (p.1, p.2, c.in_ok-external_references.ensures, c.in_ok-dependencies.ensures) (fails_then _ _ _ c.in_err-compositions.ensures)

pub returns-in_err-properties : goal.returns-in_err-properties
unfolding rows_made rows list
returns-in_err-properties c =
    let p = err_from_is_err_and c.from_residual-in_err-properties.result c.from_residual-in_err-properties.ensures.1 in
    rw (p.1, p.2, c.in_ok-external_references.ensures, c.in_ok-dependencies.ensures, c.in_ok-compositions.ensures) (fails_then _ _ _ c.in_err-properties.ensures)

pub returns-in_err-signature : goal.returns-in_err-signature
unfolding rows_made rows list
returns-in_err-signature c =
    let p = err_from_is_err_and c.from_residual-in_err-signature.result c.from_residual-in_err-signature.ensures.1 in
    rw (p.1, p.2, c.in_ok-external_references.ensures, c.in_ok-dependencies.ensures, c.in_ok-compositions.ensures, c.in_ok-properties.ensures) (fails_then _ _ _ c.in_err-signature.ensures)

pub returns : goal.returns
unfolding rows_made rows list
returns c = rw (c.in_ok-external_references.ensures, c.in_ok-dependencies.ensures, c.in_ok-compositions.ensures, c.in_ok-properties.ensures, c.in_ok-signature.ensures) refl
