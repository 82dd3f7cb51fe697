use Rattle.std.proofs.Common.{◌+◌}
use Rattle.cdx_machine.specs.Frames.{read_as}
use Rattle.cdx_machine.specs.Several.{reads_boxed}
use Rattle.cdx_machine.proofs.FrameSteps.{frame_yields}
use Rattle.cdx_machine.proofs.frame.FrameMachineMachine.finish.Goals as goal

pub returns : goal.returns
returns g c = λ v p d o k h is t w.
    let f = g.F.Frame in
    let m = c.args.self in
    frame_yields (read_as f.kind) f.plan f.first f.last g.met.F.Frame.frame (reads_boxed f.plan g.F.Child.Machines.position_of g.F.Child.Machines.holds) f.slots (Unit {0}) v p d m.name m.version f.tree (f.slots m.part) c.args.place (c.args.place + 1) c.finish.result m.inside o c.args.event.now c.in-EndElement.name k h is c.in-EndElement.is t w c.finish.ensures
