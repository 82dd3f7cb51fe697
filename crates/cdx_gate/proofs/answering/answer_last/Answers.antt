use Rattle.std.proofs.Common.{inl, inr, refl, rules, tests}
use Rattle.cdx_gate.proofs.Served.{last_none, last_put, last_stops, weaker}
use Rattle.cdx_gate.proofs.answering.answer_last.Goals as goal

pub returns-then-is_empty-clause-table : goal.returns-then-is_empty-clause-table
returns-then-is_empty-clause-table g c = λ taken first s. inl (refl, last_none taken c.args.line.now first _ (search (rules, tests)) s)

pub returns-in-Ok-clause-table : goal.returns-in-Ok-clause-table
returns-in-Ok-clause-table g c = λ taken first s. inl (refl, last_put taken c.args.line.now first _ _ (search (rules, tests)) s c.in-Ok.ensures.ok)

pub returns-in-Err-clause-table : goal.returns-in-Err-clause-table
returns-in-Err-clause-table g c = λ taken first s. inr (last_stops taken c.args.line.now c.in-Err.status first (g.K.Sink.written c.args.sink.now) (g.K.Sink.written c.answer_line.new.sink) (search (rules, tests)) s (weaker g.K.Sink.written _ _ _ _ _ c.in-Err.ensures.err))
