use Rattle.std.proofs.Common.{◌≡◌, List, ◌++◌, length, take}
use Rattle.cdx_events.specs.declared.event.XmlEvent.{XmlEvent}
use Rattle.cdx_push_reader.specs.Pushed.{Hears}
use Rattle.cdx_push_reader.proofs.hearing.Hearing.hear_all.Given as goal

abbrev pub invariant-loop-index : goal.invariant-loop-index
invariant-loop-index g l = record {
  hears : (events : List XmlEvent) → Hears g.M.RootMachine.holds g.M.RootMachine.tree l.fn.self events → l.first ≡ length events → Hears g.M.RootMachine.holds g.M.RootMachine.tree l.self (events ++ take l.index l.piece);
  version : l.self.version ≡ l.fn.self.version;
}
