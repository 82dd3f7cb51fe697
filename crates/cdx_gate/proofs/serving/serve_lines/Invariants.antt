use Rattle.std.proofs.Common.{◌≡◌, ◌≤◌, ◌⊎◌, vec_len}
use Rattle.cdx_gate.specs.Gate.{most_held, IsFlushed}
use Rattle.cdx_gate.proofs.Owed.{TakenSoFar}
use Rattle.cdx_gate.proofs.serving.serve_lines.Given as goal

-- the lines that were ended are answered, and nothing failed
abbrev pub invariant-loop-count : goal.invariant-loop-count
invariant-loop-count g l = record {
  few : vec_len l.line ≤ most_held;
  within : l.left ≤ l.limit;
  so_far : TakenSoFar l.limit l.left (g.S.Source.left l.fn.source) (g.S.Source.left l.source) (g.K.Sink.written l.fn.sink) (g.K.Sink.written l.sink) l.line.items;
  flushed : (l.sink ≡ l.fn.sink) ⊎ IsFlushed (g.K.Sink.written l.sink) (g.K.Sink.flushed l.sink);
  source_sound : g.S.Source.faults l.source ≡ g.S.Source.faults l.fn.source;
  sink_sound : g.K.Sink.faults l.sink ≡ g.K.Sink.faults l.fn.sink;
}

abbrev pub decreases-loop-count : goal.decreases-loop-count
decreases-loop-count g l = l.left
