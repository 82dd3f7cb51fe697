use Rattle.std.proofs.Common.{◌≡◌, ◌+◌, ◌<◌, ◌^◌}
use Rattle.std.specs.VecDeque.{deque_len}
use Rattle.cdx_events.proofs.Put.{IsPut}
use Rattle.cdx_events.proofs.sending.send.Given as goal

abbrev pub invariant-loop-event : goal.invariant-loop-event
invariant-loop-event g l =
    record {
      put : IsPut l.fn.events.list l.waiting.items l.put (g.K.EventSink.written l.initial.sink) (g.K.EventSink.written l.sink);
      sound : g.K.EventSink.faults l.sink ≡ g.K.EventSink.faults l.initial.sink;
      fits : l.put + deque_len l.waiting < 2 ^ 64;
    }

abbrev pub decreases-loop-event : goal.decreases-loop-event
decreases-loop-event g l = deque_len l.waiting
