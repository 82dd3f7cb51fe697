use Rattle.std.proofs.Common.{refl}
use Rattle.std.proofs.lemmas.Result.{err_from_is_err_and}
use Rattle.cdx_machine.proofs.Contents.{text_opens, text_refuses}
use Rattle.cdx_machine.proofs.content.ContentMachineMachine.start.Goals as goal

pub returns-in_err-content : goal.returns-in_err-content
returns-in_err-content g c = λ d s.
    let q = err_from_is_err_and c.from_residual.result c.from_residual.ensures.1 in
    rw (q.1, q.2) (text_refuses g.C.Content.kind g.C.Content.first g.C.Content.last g.C.Content.start g.met.C.Content.content c.in_err-content.field-0.0 _ c.args.opened.now.element.now c.args.opened.now.attributes.now s c.args.opened.now.version c.args.opened.now.place d c.in_err-content.ensures)

pub returns : goal.returns
returns g c = λ d s.
    let h = text_opens g.C.Content.kind g.C.Content.first g.C.Content.last g.C.Content.start g.met.C.Content.content c.in_ok-content.content c.args.opened.now.element.now c.args.opened.now.attributes.now s c.args.opened.now.version c.args.opened.now.place d c.in_ok-content.ensures in
    ((c.in_ok-copy.ensures, c.in_ok-content.ensures, refl), h.1)
