use Rattle.std.proofs.Common.{subst}
use Rattle.cdx_events.proofs.Broken.{not_alive}
use Rattle.cdx_push_reader.specs.Pushed.{StandsAtStage}
use Rattle.cdx_push_reader.proofs.Stands.{not_after, after_value}
use Rattle.cdx_push_reader.proofs.Readers.{ends_early}
use Rattle.cdx_push_reader.proofs.hearing.Hearing.finish.Goals as goal

pub returns-then-not-whole-clause-answer : goal.returns-then-not-whole-clause-answer
returns-then-not-whole-clause-answer g c = λ events h p.
    rw c.unbalanced.ensures (ends_early g.M.RootMachine.holds g.M.RootMachine.tree c.args.self events c.args.count h p (λ b. not_alive c.whole.result ((c.whole.ensures events h.0).1 b) c.if-not-whole.true))

pub returns-in-After-clause-answer : goal.returns-in-After-clause-answer
returns-in-After-clause-answer g c = λ events h p.
    after_value g.M.RootMachine.holds g.M.RootMachine.tree c.args.self.version c.in-After.value events (subst (λ x. StandsAtStage g.M.RootMachine.holds g.M.RootMachine.tree c.args.self.version x events) c.in-After.is h.1) ((c.whole.ensures events h.0).0 c.if-not-whole.false)

pub returns-clause-answer : goal.returns-clause-answer
returns-clause-answer g c = λ events h p.
    absurd (not_after g.M.RootMachine.holds g.M.RootMachine.tree c.args.self.version c.args.self.stage events h.1 (λ x e. c.in_default.not-After x e) ((c.whole.ensures events h.0).0 c.if-not-whole.false))
