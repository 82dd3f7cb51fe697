use Rattle.std.proofs.Common.{refl, sym}
use Rattle.std.proofs.lemmas.Result.{err_from_is_err_and}
use Rattle.cdx_schema.specs.Table.{rows, list}
use Rattle.cdx_json.specs.ByRows.{rows_made}
use Rattle.cdx_json.proofs.Rows.{fails_then}
use Rattle.cdx_license.proofs.json.ExpressionJsonRecord.from_members.Goals as goal

pub returns-in_err-expression : goal.returns-in_err-expression
unfolding rows_made rows list
returns-in_err-expression c =
    let p = err_from_is_err_and c.from_residual-in_err-expression.result c.from_residual-in_err-expression.ensures.1 in
    rw (p.1, p.2, sym c.first_or_old-reference.ensures, c.in_ok-bom_ref.ensures) (fails_then _ _ _ c.in_err-expression.ensures)

pub returns : goal.returns
unfolding rows_made rows list
returns c = rw (sym c.first_or_old-reference.ensures, c.in_ok-bom_ref.ensures, c.in_ok-expression.ensures) refl
