use Rattle.std.proofs.Common.{◌≡◌, IfOk, Err, refl, sym, subst, ◌∙◌}
use Rattle.cdx_schema.specs.Roads.{version_missing, hops_from}
use Rattle.cdx_bom.specs.Trees.{bom_tree}
use Rattle.cdx_bom.specs.Docs.{hops_of}
use Rattle.cdx_request.specs.Replies.{reply_to_road}
use Rattle.cdx_tool.specs.Asks.{bill_refused}
use Rattle.cdx_tool.specs.Shows.{reply_of}
use Rattle.cdx_tool.proofs.Lacking.{refused_why, why_road, road_lacks, road_answered, road_is, road_missing}
use Rattle.cdx_tool.proofs.answer.make.answer_bill.Goals as goal

pub answer_no_bill-requires : goal.answer_no_bill-requires
answer_no_bill-requires c =
    (Err (bill_refused version_missing), refused_why (Err (bill_refused version_missing)) c.version_missing.result version_missing c.version_missing.ensures refl)

pub returns-then-not-fits_all : goal.returns-then-not-fits_all
returns-then-not-fits_all c = λ x v is.
    let b = bom_tree c.args.bill in
    let r = c.answer_no_bill.result in
    let missing = road_missing x v (hops_of c.args.hops.now) b is (sym c.fits_all.ensures ∙ c.if-not-fits_all.true) in
    subst (λ q. IfOk r (λ a. reply_of a ≡ reply_to_road q)) (sym missing)
    (road_answered b (Err version_missing) r c.version_missing.result (refused_why (why_road b (Err version_missing)) c.version_missing.result version_missing c.version_missing.ensures refl) c.answer_no_bill.ensures)

pub answer_no_bill-requires-in-Err : goal.answer_no_bill-requires-in-Err
answer_no_bill-requires-in-Err c =
    let known = c.requires in
    let b = bom_tree c.args.bill in
    let q = hops_from known.0 known.1 (hops_of c.args.hops.now) in
    (why_road b q, road_lacks b q c.in-Err.error (c.in-Err.ensures known.0 known.1 known.2))

pub returns-in-Err : goal.returns-in-Err
returns-in-Err c = λ x v is.
    let b = bom_tree c.args.bill in
    let r = c.answer_no_bill-in-Err.result in
    let hops = hops_of c.args.hops.now in
    let along = road_is x v hops b is (sym c.fits_all.ensures ∙ c.if-not-fits_all.false) in
    subst (λ q. IfOk r (λ a. reply_of a ≡ reply_to_road q)) (sym along)
    (road_answered b (hops_from x v hops) r c.in-Err.error (road_lacks b (hops_from x v hops) c.in-Err.error (c.in-Err.ensures x v is)) c.answer_no_bill-in-Err.ensures)
