use Rattle.std.proofs.Common.{◌≡◌, ◌∙◌, ◌∷◌, [], length, ◌<◌, false, sym, ap, arith, length-append}
use Rattle.cdx_events.specs.Gather.{is_end}
use Rattle.cdx_events.proofs.Taken.{loses_more, no_end_more, is_memory, at_source_end, at_fault, at_memory, at_document_end, at_budget}
use Rattle.cdx_events.proofs.gathering.take_events.Goals as goal

pub returns-in-Ok-None : goal.returns-in-Ok-None
returns-in-Ok-None g c =
    let i = c.loop-taken.invariant in
    let n = rw c.in-Ok-None.field-0-is at c.in-Ok-None.ensures.events in
    let short : length c.loop-taken.list < c.args.budget = omega (arith, i.count, c.loop-taken-test.true) in
    at_source_end _ (g.E.EventSource.left c.loop-taken.source) _ c.loop-taken.list _ _ _ i.after i.no_end short n (c.in-Ok-None.ensures.cause.ok ∙ i.sound)

pub returns-in-Err : goal.returns-in-Err
returns-in-Err g c =
    let i = c.loop-taken.invariant in
    at_fault _ (g.E.EventSource.left c.loop-taken.source) _ c.loop-taken.list _ _ (g.E.EventSource.faults c.loop-taken.source) _ _ i.after i.no_end i.count c.loop-taken-test.true c.in-Err.ensures.events i.sound c.in-Err.ensures.cause.failed

pub returns-in_err-push : goal.returns-in_err-push
returns-in_err-push g c =
    let i = c.loop-taken.invariant in
    let n = rw c.in-Ok-Some.field-0-is at c.in-Ok-Some.ensures.events in
    let short : length c.loop-taken.list < c.args.budget = omega (arith, i.count, c.loop-taken-test.true) in
    let m = is_memory c.from_residual.result _ c.from_residual.ensures.1 in
    rw m (at_memory _ (g.E.EventSource.left c.loop-taken.source) _ c.loop-taken.list c.in-Ok-Some.event _ _ (g.E.EventSource.faults c.loop-taken.source) _ _ i.after i.no_end short n i.sound c.in-Ok-Some.ensures.cause.later)

pub returns-then-ends : goal.returns-then-ends
returns-then-ends g c =
    let i = c.loop-taken.invariant in
    let n = rw c.in-Ok-Some.field-0-is at c.in-Ok-Some.ensures.events in
    let short : length c.loop-taken.list < c.args.budget = omega (arith, i.count, c.loop-taken-test.true) in
    at_document_end _ (g.E.EventSource.left c.loop-taken.source) _ c.loop-taken.list _ c.in-Ok-Some.event _ _ _ i.after i.no_end short n (sym c.is_end-ends.ensures ∙ c.if-ends.true) c.in_ok-push.ensures.ok (c.in-Ok-Some.ensures.cause.ok ∙ i.sound)

pub loop-taken-preserved : goal.loop-taken-preserved
loop-taken-preserved g c =
    let i = c.loop-taken.invariant in
    let n = rw c.in-Ok-Some.field-0-is at c.in-Ok-Some.ensures.events in
    let l = c.in_ok-push.ensures.ok in
    let plain : is_end c.in-Ok-Some.event ≡ false = sym c.is_end-ends.ensures ∙ c.if-ends.false in
    record {
      after = rw l (loses_more _ (g.E.EventSource.left c.loop-taken.source) _ c.loop-taken.list _ i.after n);
      sound = c.in-Ok-Some.ensures.cause.ok ∙ i.sound;
      count = omega (arith, ap (λ xs. length xs) l, length-append c.loop-taken.list (c.in-Ok-Some.event ∷ []), i.count);
      no_end = rw l (no_end_more c.loop-taken.list c.in-Ok-Some.event i.no_end plain);
    }

pub returns : goal.returns
returns g c =
    let i = c.loop-taken.invariant in
    at_budget _ _ c.loop-taken.list _ _ _ i.after i.no_end (omega (arith, i.count, c.loop-taken-test.false, c.loop-taken.auto.taken-end)) i.sound
