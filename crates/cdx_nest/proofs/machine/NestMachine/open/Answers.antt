use Rattle.std.proofs.Common.{Ok, refl, [], ◌∷◌}
use Rattle.std.proofs.lemmas.Result.{err_from_is_err_and}
use Rattle.cdx_events.specs.declared.event.XmlEvent.TheVariants.{StartElement}
use Rattle.cdx_schema.specs.Depths.{depth_of}
use Rattle.cdx_machine.proofs.Heard.{opens_ok}
use Rattle.cdx_nest_machine.proofs.HeardStack.{stack_opens}
use Rattle.cdx_nest.specs.Frames.{nest_kind}
use Rattle.cdx_nest.proofs.NestHearing.{held, start_refused}
use Rattle.cdx_nest.proofs.machine.NestMachine.open.Goals as goal

pub returns-in_err-machine-clause-opens : goal.returns-in_err-machine-clause-opens
returns-in_err-machine-clause-opens c = λ s.
    let q = err_from_is_err_and c.from_residual.result c.from_residual.ensures.1 in
    rw (q.1, q.2) (start_refused _ (nest_kind c.args.kind) c.args.version c.args.place (depth_of c.args.depth) c.args.element.now c.args.attributes.now s c.in_err-machine.field-0.0 (c.in_err-machine.ensures s))

pub returns-clause-opens : goal.returns-clause-opens
returns-clause-opens c = λ s.
    opens_ok _ _ c.args.version (nest_kind c.args.kind) c.args.place (depth_of c.args.depth) (StartElement c.args.element.now c.args.attributes.now s ∷ []) c.in_ok-machine.machine _ (λ h. (refl, h)) (stack_opens (λ m v p d o. held c.args.kind m.below.items m.top m.version m.inside v p d o) (nest_kind c.args.kind) c.args.version c.args.place (depth_of c.args.depth) c.args.element.now c.args.attributes.now s (Ok c.in_ok-machine.machine) c.in_ok-machine.ensures)
