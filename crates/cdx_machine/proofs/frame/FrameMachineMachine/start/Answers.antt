use Rattle.std.proofs.lemmas.Result.{err_from_is_err_and}
use Rattle.cdx_machine.specs.Frames.{read_as}
use Rattle.cdx_machine.specs.Several.{reads_boxed}
use Rattle.cdx_machine.proofs.FrameSteps.{frame_opens, frame_refuses}
use Rattle.cdx_machine.proofs.frame.FrameMachineMachine.start.Goals as goal

pub returns-in_err-part : goal.returns-in_err-part
returns-in_err-part g c = λ d s.
    let q = err_from_is_err_and c.from_residual.result c.from_residual.ensures.1 in
    let f = g.F.Frame in
    rw (q.1, q.2) (frame_refuses (read_as f.kind) f.plan f.first f.last g.met.F.Frame.frame c.in_err-part.field-0.0 _ c.args.opened.now.element.now c.args.opened.now.attributes.now s c.args.opened.now.version c.args.opened.now.place d c.in_err-part.ensures)

pub returns : goal.returns
returns g c = λ d s.
    let f = g.F.Frame in
    let h = frame_opens (read_as f.kind) f.plan f.first f.last g.met.F.Frame.frame (reads_boxed f.plan g.F.Child.Machines.position_of g.F.Child.Machines.holds) f.slots c.in_ok-part.part c.args.opened.now.element.now c.args.opened.now.attributes.now s c.args.opened.now.version c.args.opened.now.place d c.in_ok-part.ensures in
    (record { name_is = c.in_ok-copy.ensures; version_is = h.0.version_is; reads = h.0.reads }, h.1)
