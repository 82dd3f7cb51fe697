use Rattle.std.proofs.Common.{◌≡◌, IfOk, sym, ap, subst, ◌∙◌}
use Rattle.std.specs.Prelude.{option_and_then}
use Rattle.serde_json.specs.View.{view}
use Rattle.cdx_schema.specs.Roads.{road}
use Rattle.cdx_bom.specs.Trees.{bom_tree}
use Rattle.cdx_bom.specs.Docs.{hops_of}
use Rattle.cdx_request.specs.Requests.{request_if, request_of}
use Rattle.cdx_request.specs.Replies.{reply_to_road, reply_to_request}
use Rattle.cdx_tool.specs.Shows.{reply_of}
use Rattle.cdx_tool.specs.Reads.{sent_unread, asked_unread}
use Rattle.cdx_tool.specs.Asks.{bill_sent}
use Rattle.cdx_tool.proofs.Lacking.{lack_told, bill_told, none_told}
use Rattle.cdx_tool.proofs.answer.make.answer_asked.Goals as goal

pub answer_bill-requires : goal.answer_bill-requires
answer_bill-requires c =
    let a = c.in-Some.asked in
    let t = bill_told a.from (hops_of a.hops) (sent_unread a.sent) (bom_tree c.in-Ok.bill) c.in-Ok.ensures in
    (t.0, a.from, t.1)

pub returns-in-Ok : goal.returns-in-Ok
returns-in-Ok c =
    let a = c.in-Some.asked in
    let t = bill_told a.from (hops_of a.hops) (sent_unread a.sent) (bom_tree c.in-Ok.bill) c.in-Ok.ensures in
    let is = ap (option_and_then asked_unread) (sym c.in-Some.is) ∙ c.in_ok-asked.ensures in
    let owed = ap (λ hs. reply_to_road (road t.0 a.from (hops_of hs))) c.as_slice.ensures ∙ (t.2 ∙ ap (λ o. reply_to_request (request_if o)) is) in
    subst (λ x. IfOk c.answer_bill.result (λ a. reply_of a ≡ x)) owed (c.answer_bill.ensures t.0 a.from t.1)

pub returns : goal.returns
returns c =
    let a = c.in-Some.asked in
    let is = ap (option_and_then asked_unread) (sym c.in-Some.is) ∙ c.in_ok-asked.ensures in
    none_told (reply_to_request (request_of (view c.args.value))) (bill_sent (sent_unread a.sent) a.from)
    (λ l e. lack_told a.from (hops_of a.hops) (sent_unread a.sent) l e ∙ ap (λ o. reply_to_request (request_if o)) is)
    c.answer_no_bill.result c.in-Err.error c.in-Err.ensures c.answer_no_bill.ensures
