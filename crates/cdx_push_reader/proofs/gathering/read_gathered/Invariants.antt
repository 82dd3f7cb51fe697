use Rattle.cdx_push_reader.proofs.Sources.{IsTaking}
use Rattle.cdx_push_reader.proofs.gathering.read_gathered.Given as goal

abbrev pub invariant-loop-taken : goal.invariant-loop-taken
invariant-loop-taken g l = IsTaking g.M.RootMachine.holds g.M.RootMachine.tree l.gathering l.fn.version (g.E.EventSource.left l.initial.source) (g.E.EventSource.left l.source) (g.E.EventSource.faults l.initial.source) (g.E.EventSource.faults l.source) l.taken
