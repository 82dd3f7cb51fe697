use Rattle.std.proofs.Common.{◌≡◌, ◌⊎◌, ℕ, List, IfErr, subst, ◌∙◌}
use Rattle.cdx_events.specs.Causes.{Rose}
use Rattle.cdx_gate.specs.Lines.{line_reply}
use Rattle.cdx_gate.specs.Gate.{PutsFront}
use Rattle.cdx_gate.proofs.answering.end_line.Goals as goal

pub returns-clause-err : goal.returns-clause-err
returns-clause-err g c =
    let old = c.args.sink.now in
    let new = c.answer_line-answered.new.sink in
    subst (λ (l : List ℕ). IfErr c.answer_line-answered.result (λ (status : ℕ). ((status ≡ 4) × PutsFront (g.K.Sink.written old) (g.K.Sink.written new) (line_reply l) × Rose (g.K.Sink.faults old) (g.K.Sink.faults new)) ⊎ ((status ≡ 5) × (new ≡ old)))) (c.as_slice.ensures.value ∙ c.in-Ok.ensures.items) c.answer_line-answered.ensures.err
