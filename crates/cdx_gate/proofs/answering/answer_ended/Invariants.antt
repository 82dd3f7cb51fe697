use Rattle.std.proofs.Common.{◌≡◌, ℕ, ◌≤◌, List, ◌++◌, length, vec_len, Option, ◌⊎◌}
use Rattle.cdx_gate.specs.Gate.{most_held, IsFlushed, HasServed}
use Rattle.cdx_gate.proofs.answering.answer_ended.Given as goal

-- the bytes before the rest are done, and nothing failed
abbrev pub invariant-loop-at : goal.invariant-loop-at
invariant-loop-at g l = record {
  few : vec_len l.line ≤ most_held;
  so_far : (done : List ℕ) × (l.fn.bytes ≡ done ++ l.rest)
      × ((taken : List ℕ) (first : Option (List ℕ)) → HasServed taken first (g.K.Sink.written l.fn.sink) l.fn.line.items → HasServed (taken ++ done) first (g.K.Sink.written l.sink) l.line.items);
  flushed : (l.sink ≡ l.fn.sink) ⊎ IsFlushed (g.K.Sink.written l.sink) (g.K.Sink.flushed l.sink);
  sound : g.K.Sink.faults l.sink ≡ g.K.Sink.faults l.fn.sink;
}

abbrev pub decreases-loop-at : goal.decreases-loop-at
decreases-loop-at g l = length l.rest
