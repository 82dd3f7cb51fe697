use Rattle.std.proofs.Common.{refl, ap}
use Rattle.std.proofs.lemmas.Result.{err_from_is_err_and}
use Rattle.serde_json.specs.View.{view}
use Rattle.cdx_schema.specs.Roads.{json, denotes}
use Rattle.cdx_tool.specs.Asks.{billed}
use Rattle.cdx_tool.proofs.Lacking.{fault_why}
use Rattle.cdx_tool.proofs.request.sent.Unread.into_bill.Goals as goal

pub returns-in_err-into_bill-in-Json : goal.returns-in_err-into_bill-in-Json
returns-in_err-into_bill-in-Json c =
    let q = err_from_is_err_and c.from_residual.result c.from_residual.ensures.1 in
    let x = json (view c.in-Json.value) in
    let e = c.in_err-into_bill-in-Json in
    rw (c.in-Json.is, q.1, q.2) (fault_why (denotes x c.args.version) e.field-0.0 (e.ensures x refl))

pub returns-in_ok-into_bill-in-Json : goal.returns-in_ok-into_bill-in-Json
returns-in_ok-into_bill-in-Json c = rw c.in-Json.is (ap billed (c.in_ok-into_bill-in-Json.ensures (json (view c.in-Json.value)) refl))
