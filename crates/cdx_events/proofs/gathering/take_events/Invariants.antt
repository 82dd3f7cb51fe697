use Rattle.std.proofs.Common.{◌≡◌, false, length}
use Rattle.cdx_events.specs.Told.{Loses}
use Rattle.cdx_events.specs.Gather.{has_end}
use Rattle.cdx_events.proofs.gathering.take_events.Given as goal

abbrev pub invariant-loop-taken : goal.invariant-loop-taken
invariant-loop-taken g l =
    record {
      after : Loses (g.E.EventSource.left l.initial.source) (g.E.EventSource.left l.source) l.list;
      sound : g.E.EventSource.faults l.source ≡ g.E.EventSource.faults l.initial.source;
      count : length l.list ≡ l.taken;
      no_end : has_end l.list ≡ false;
    }
