use Rattle.std.proofs.Common.{◌+◌}
use Rattle.cdx_machine.proofs.Contents.{text_yields}
use Rattle.cdx_machine.proofs.content.ContentMachineMachine.finish.Goals as goal

pub returns : goal.returns
returns g c = λ v p d o k h is t w.
    let x = g.C.Content in
    let m = c.args.self in
    text_yields x.kind x.first x.last x.start g.met.C.Content.content v p c.args.place d m.name m.content m.text g.C.Value.HasTree.tree (c.args.place + 1) c.finish.result o c.args.event.now c.in-EndElement.name k h is c.in-EndElement.is t w c.finish.ensures
