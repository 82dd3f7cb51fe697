use Rattle.cdx_events.proofs.Broken.{not_alive}
use Rattle.cdx_push_reader.proofs.Stands.{breaks_next}
use Rattle.cdx_push_reader.proofs.hearing.Hearing.hear.Goals as goal

pub returns-then-not-branch-clause-hears : goal.returns-then-not-branch-clause-hears
returns-then-not-branch-clause-hears g c = λ events h p.
    let s = c.args.self.now in
    let alive = c.in_ok-step.ensures.alive events h.0 in
    rw c.unbalanced.ensures (breaks_next g.M.RootMachine.holds g.M.RootMachine.tree s.version s.stage events c.args.place c.args.event.now h.1 p (λ go. not_alive c.in_ok-step.field-0 (alive.1 go) c.if-not-branch.true))
