use Rattle.std.proofs.Common.{◌∙◌, arith}
use Rattle.cdx_events.proofs.Put.{one_put}
use Rattle.cdx_events.proofs.sending.send.Goals as goal

pub loop-event-preserved : goal.loop-event-preserved
loop-event-preserved g c =
    let i = c.loop-event.invariant in
    record {
      put = one_put _ _ _ c.in-Some.event _ _ (g.K.EventSink.written c.loop-event.sink) _ i.put c.in-Some.ensures.items c.in-Ok.ensures.events;
      sound = c.in-Ok.ensures.cause.ok ∙ i.sound;
      fits = omega (arith, i.fits, c.in-Some.ensures.len);
    }
