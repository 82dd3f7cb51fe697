use Rattle.std.proofs.Common.{◌≡◌, ◌∙◌, IfOk, ap, subst}
use Rattle.cdx_bom.specs.Docs.{hops_of}
use Rattle.cdx_bom.specs.Trees.{bom_tree}
use Rattle.cdx_request.specs.Replies.{Reply}
use Rattle.cdx_tool.specs.Shows.{reply_of}
use Rattle.cdx_tool.specs.Asks.{billed}
use Rattle.cdx_losses.specs.Report.{carried, answer_to}
use Rattle.cdx_losses.proofs.Reported.{lacks, same_bill, bill_reply}
use Rattle.cdx_losses.proofs.answering.answer_request.Goals as goal

pub answer_no_bill-requires : goal.answer_no_bill-requires
answer_no_bill-requires c =
    let q = c.requires in
    let owed = carried q.0.doc c.args.request.from (hops_of c.as_slice-road.result.now) in
    (billed owed, lacks owed c.in-Err.error (c.in-Err.ensures q.0.doc q.1.1))

pub returns-in-Ok : goal.returns-in-Ok
returns-in-Ok c = λ q is.
    let hops = hops_of c.as_slice-road.result.now in
    let owed = carried q.doc c.args.request.from hops in
    let same = bill_reply hops owed (bom_tree c.in-Ok.bill) (c.in-Ok.ensures q.doc is.1) ∙ same_bill q c.args.request.from hops is.0 (ap hops_of c.as_slice-road.ensures ∙ is.2) in
    subst (λ (r : Reply). IfOk c.answer_bill.result (λ a. reply_of a ≡ r)) same c.answer_bill.ensures

pub returns : goal.returns
returns c = λ q is.
    let hops = hops_of c.as_slice-road.result.now in
    let owed = carried q.doc c.args.request.from hops in
    let same = same_bill q c.args.request.from hops is.0 (ap hops_of c.as_slice-road.ensures ∙ is.2) in
    subst (λ (r : Reply). IfOk c.answer_no_bill.result (λ a. reply_of a ≡ r)) same (c.answer_no_bill.ensures (billed owed) (answer_to hops) (lacks owed c.in-Err.error (c.in-Err.ensures q.doc is.1)))
