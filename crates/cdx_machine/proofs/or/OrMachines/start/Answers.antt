use Rattle.std.proofs.Common.{Ok, subst}
use Rattle.cdx_machine.specs.Machines.{StartsAs}
use Rattle.cdx_machine.proofs.Several.{first_is, other_is, other_at}
use Rattle.cdx_machine.proofs.or.OrMachines.start.Goals as goal

pub returns-then-position-eq0-clause-starts : goal.returns-then-position-eq0-clause-starts
returns-then-position-eq0-clause-starts g c = λ k at.
    subst (λ k. StartsAs g.M.Machine.holds k c.args.opened.now.version c.args.opened.now.place c.args.opened.now.element.now c.args.opened.now.attributes.now (Ok c.in_ok-start.field-0)) (first_is g.M.Machine.kind k g.R.Machines.kinds c.args.position c.if-position-eq0.true at) c.in_ok-start.ensures

pub returns-clause-starts : goal.returns-clause-starts
returns-clause-starts g c = λ k at. c.in_ok-start-2.ensures.starts k (other_is g.M.Machine.kind k g.R.Machines.kinds c.args.position c.if-position-eq0.false at)

pub returns-clause-runs : goal.returns-clause-runs
returns-clause-runs g c = λ there.
    other_at c.args.position (g.R.Machines.position_of c.in_ok-start-2.field-0) c.if-position-eq0.false (c.in_ok-start-2.ensures.runs (there.0, other_is g.M.Machine.kind there.0 g.R.Machines.kinds c.args.position c.if-position-eq0.false there.1))
