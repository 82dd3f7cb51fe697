use Rattle.cdx_machine.proofs.Contents.{text_steps}
use Rattle.cdx_machine.proofs.content.ContentMachineMachine.step.Goals as goal

pub returns : goal.returns
returns g c = λ v p d o h is t.
    let x = g.C.Content in
    let m = c.args.self.now in
    text_steps x.kind x.first x.last x.start g.met.C.Content.content v p c.args.place d m.name m.content c.take_text.new.text m.text o c.args.event.now c.take_text.result h is t c.take_text.ensures
