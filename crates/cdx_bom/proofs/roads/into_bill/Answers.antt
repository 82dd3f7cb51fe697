use Rattle.std.proofs.lemmas.Result.{err_from_is_err_and}
use Rattle.cdx_bom.proofs.Carried.{json_fault}
use Rattle.cdx_bom.proofs.roads.into_bill.Goals as goal

pub returns-in_err-parse_owned-in-Json : goal.returns-in_err-parse_owned-in-Json
returns-in_err-parse_owned-in-Json c = λ x is.
    let q = err_from_is_err_and c.from_residual.result c.from_residual.ensures.1 in
    rw (q.1, q.2) (json_fault c.args.doc c.in-Json.value x c.args.version c.in_err-parse_owned-in-Json.field-0.0 c.in-Json.is is c.in_err-parse_owned-in-Json.ensures)
