use Rattle.std.proofs.Common.{Ok, subst}
use Rattle.cdx_machine.specs.Machines.{StartsAs}
use Rattle.cdx_machine.proofs.Several.{only_is}
use Rattle.cdx_machine.proofs.or.OnlyMachines.start.Goals as goal

pub returns-clause-starts : goal.returns-clause-starts
returns-clause-starts g c = λ k at.
    subst (λ k. StartsAs g.M.Machine.holds k c.args.opened.now.version c.args.opened.now.place c.args.opened.now.element.now c.args.opened.now.attributes.now (Ok c.in_ok-start.field-0)) (only_is g.M.Machine.kind k c.args._position at) c.in_ok-start.ensures
