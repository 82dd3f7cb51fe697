use Rattle.std.proofs.Common.{length, subst, ap, ◌∙◌, arith}
use Rattle.std.specs.Vec.Iter.{into_iter_items}
use Rattle.cdx_tool.proofs.Gathering.{IsGathering, goes_on}
use Rattle.cdx_tool.proofs.request.bill.gather_items.Goals as goal

pub loop-item-preserved : goal.loop-item-preserved
loop-item-preserved c =
    let at = c.loop-item in
    let steps = c.in-Some.ensures.steps in
    let all = c.args.items.items in
    let rest = into_iter_items c.next.new.self in
    let g = subst (λ vs. IsGathering all vs at.reader at.place) steps.0 at.invariant.0 in
    let taken = c.in_ok-gather_item.ensures.taken g.events g.taken g.count_is in
    let fewer = ap length steps.0 in
    let was = at.invariant.2 in
    let total = at.invariant.3 in
    let one = steps.1 in
    (goes_on all rest c.in-Some.item at.reader at.place g c.gather_item.new.reader taken, c.in_ok-gather_item.ensures.version ∙ at.invariant.1, omega (arith, fewer, was, one), omega (arith, total, one))
