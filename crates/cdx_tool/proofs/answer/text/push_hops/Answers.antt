use Rattle.std.proofs.Common.{rules, arith, ◌≡◌, subst, drop, [], ◌∷◌, ◌+◌, slice_index_or}
use Rattle.std.proofs.lemmas.List.{drop_more, drop_all}
use Rattle.std.proofs.lemmas.Result.{err_from_is_err_and}
use Rattle.cdx_models.specs.declared.bom.SpecVersion.TheVariants.{V1_3}
use Rattle.cdx_bom.specs.declared.doc.Form.TheVariants.{Json}
use Rattle.cdx_bom.specs.declared.doc.Hop.{Hop}
use Rattle.cdx_print.specs.Printed.{printed}
use Rattle.cdx_tool.proofs.Underway.{IsUnderway, begins, goes_on, stops, ends}
use Rattle.cdx_tool.proofs.answer.text.push_hops.Goals as goal

pub loop-next-init : goal.loop-next-init
loop-next-init c =
    let is : c.args.hops.now ≡ c.in-Some.first.now ∷ c.in-Some.rest.now = search rules in
    begins c.args.start c.args.hops.now (printed c.args.text.now) c.in-Some.first.now c.in-Some.rest.now (printed c.push_hop.new.text) is c.in_ok-push_hop.ensures

pub loop-next-preserved : goal.loop-next-preserved
loop-next-preserved c =
    let i = c.loop-next.next-index in
    let other : Hop = record { form = Json; version = V1_3 } in
    let next = slice_index_or c.in-Some.rest.now i other in
    let more = drop_more c.in-Some.rest.now i other c.loop-next-test.true in
    let a = subst (λ rest. IsUnderway c.args.start c.args.hops.now rest (printed c.args.text.now) (printed c.loop-next.text) c.loop-next.bill c.loop-next.hop) more c.loop-next.invariant in
    goes_on c.args.start c.args.hops.now (printed c.args.text.now) next (drop (i + 1) c.in-Some.rest.now) (printed c.loop-next.text) c.loop-next.bill c.loop-next.hop a c.in_ok-bill.bill (printed c.push_hop-in-loop-next.new.text) c.in_ok-bill.ensures.denoted (search rules)

pub returns-in_err-bill : goal.returns-in_err-bill
returns-in_err-bill c = λ x v is.
    let q = err_from_is_err_and c.from_residual-in_err-bill.result c.from_residual-in_err-bill.ensures.1 in
    let i = c.loop-next.next-index in
    let other : Hop = record { form = Json; version = V1_3 } in
    let next = slice_index_or c.in-Some.rest.now i other in
    let more = drop_more c.in-Some.rest.now i other c.loop-next-test.true in
    let a = subst (λ rest. IsUnderway c.args.start c.args.hops.now rest (printed c.args.text.now) (printed c.loop-next.text) c.loop-next.bill c.loop-next.hop) more c.loop-next.invariant in
    rw (q.1, q.2) (stops c.args.start c.args.hops.now (printed c.args.text.now) next (drop (i + 1) c.in-Some.rest.now) (printed c.loop-next.text) c.loop-next.bill c.loop-next.hop a c.in_err-bill.field-0.0 c.in_err-bill.ensures.denoted x v is)

pub returns : goal.returns
returns c = λ x v is.
    let i = c.loop-next.next-index in
    let done : drop i c.in-Some.rest.now ≡ [] = drop_all i c.in-Some.rest.now (omega (arith, c.loop-next-test.false)) in
    let a = subst (λ rest. IsUnderway c.args.start c.args.hops.now rest (printed c.args.text.now) (printed c.loop-next.text) c.loop-next.bill c.loop-next.hop) done c.loop-next.invariant in
    ends c.args.start c.args.hops.now (printed c.args.text.now) (printed c.loop-next.text) c.loop-next.bill c.loop-next.hop a (printed c.push_str-2.new.self) c.in_ok-push_str-3.ensures x v is
