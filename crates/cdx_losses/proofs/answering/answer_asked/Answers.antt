use Rattle.std.proofs.Common.{◌≡◌, IfOk, ap, sym, subst}
use Rattle.serde_json.specs.View.{view}
use Rattle.cdx_request.specs.Replies.{Reply}
use Rattle.cdx_request.specs.Requests.{request_of}
use Rattle.cdx_tool.specs.Shows.{reply_of}
use Rattle.cdx_losses.specs.Report.{losses_reply}
use Rattle.cdx_losses.proofs.Reported.{asked_for, answer_in, reply_in, misreads}
use Rattle.cdx_losses.proofs.answering.answer_asked.Goals as goal

pub answer_request-requires : goal.answer_request-requires
answer_request-requires c = let q = c.in-Ok.ensures in (q.0, q.2)

pub answer_no_bill-requires : goal.answer_no_bill-requires
answer_no_bill-requires c = let o = request_of (view c.args.value) in (asked_for o, misreads o c.in-Err.error c.in-Err.ensures)

pub returns-in-Ok : goal.returns-in-Ok
returns-in-Ok c =
    let q = c.in-Ok.ensures in
    subst (λ (r : Reply). IfOk c.answer_request.result (λ a. reply_of a ≡ r)) (ap losses_reply (sym q.1)) (c.answer_request.ensures q.0 q.2)

pub returns-in-Err : goal.returns-in-Err
returns-in-Err c =
    let o = request_of (view c.args.value) in
    subst (λ (r : Reply). IfOk c.answer_no_bill.result (λ a. reply_of a ≡ r)) (reply_in o) (c.answer_no_bill.ensures (asked_for o) (answer_in o) (misreads o c.in-Err.error c.in-Err.ensures))
