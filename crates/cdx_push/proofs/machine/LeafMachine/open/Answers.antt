use Rattle.std.proofs.Common.{Ok, Err, [], ◌∷◌}
use Rattle.std.proofs.lemmas.Result.{err_from_is_err_and}
use Rattle.cdx_events.specs.declared.event.XmlEvent.TheVariants.{StartElement}
use Rattle.cdx_schema.specs.Depth.{top}
use Rattle.cdx_machine.proofs.Heard.{answers_start, opens_ok, opens_fail}
use Rattle.cdx_push.specs.Leaf.{kind_of}
use Rattle.cdx_push.specs.contracts.leaf.LeafLeaves.TheImpl.{ghosts}
use Rattle.cdx_push.proofs.machine.LeafMachine.open.Goals as goal

pub returns-in_err-machine-clause-opens : goal.returns-in_err-machine-clause-opens
returns-in_err-machine-clause-opens c = λ s.
    let q = err_from_is_err_and c.from_residual.result c.from_residual.ensures.1 in
    rw (q.1, q.2) (opens_fail _ _ c.args.version (kind_of c.args.kind) c.args.place top (StartElement c.args.element.now c.args.attributes.now s ∷ []) c.in_err-machine.field-0.0 (answers_start ghosts.holds (kind_of c.args.kind) c.args.version c.args.place top c.args.element.now c.args.attributes.now s (Err c.in_err-machine.field-0.0) c.in_err-machine.ensures.starts))

pub returns-clause-opens : goal.returns-clause-opens
returns-clause-opens c = λ s.
    opens_ok _ _ c.args.version (kind_of c.args.kind) c.args.place top (StartElement c.args.element.now c.args.attributes.now s ∷ []) c.in_ok-machine.machine _ (λ h. (c.in_ok-machine.ensures.sort, h)) (answers_start ghosts.holds (kind_of c.args.kind) c.args.version c.args.place top c.args.element.now c.args.attributes.now s (Ok c.in_ok-machine.machine) c.in_ok-machine.ensures.starts)
