use Rattle.std.proofs.Common.{Err, refl, ap}
use Rattle.std.specs.Prelude.{codes}
use Rattle.std.proofs.lemmas.Result.{err_from_is_err_and}
use Rattle.cdx_models.specs.Trees.{service}
use Rattle.cdx_schema.specs.Faults.{lacking}
use Rattle.cdx_schema.specs.Table.{rows}
use Rattle.cdx_schema.specs.XmlReading.{ended}
use Rattle.cdx_schema.specs.Groups.{group}
use Rattle.cdx_leaf.specs.Attribute.{or_fault}
use Rattle.cdx_leaf.proofs.Attributes.{or_fault_ok, or_fault_err}
use Rattle.cdx_leaf.proofs.Loop.{fails_along}
use Rattle.cdx_service.specs.ReadingParts.{naming_part}
use Rattle.cdx_service.proofs.xml.reading.finish.finish_naming.Goals as goal

pub returns-in_err-name : goal.returns-in_err-name
unfolding rows ended
returns-in_err-name c = λ v.
    let fault = lacking c.args.closed.now.place c.args.closed.now.element.now.local_name (codes "name") in
    let q = err_from_is_err_and c.from_residual.result c.from_residual.ensures.1 in
    rw (q.1, q.2) (fails_along c.in_err-name.field-0.0 _ (or_fault c.args.part.name fault) (ended (group 0 service) (naming_part c.args.part) v c.args.closed.now.element.now.local_name c.args.closed.now.place)
    (λ f is. let e = or_fault_err c.args.part.name fault f is in rw (e.0) (ap (λ x. Err x) e.1)) c.in_err-name.ensures)

pub returns : goal.returns
unfolding rows ended
returns c = λ v. rw (or_fault_ok c.args.part.name (lacking c.args.closed.now.place c.args.closed.now.element.now.local_name (codes "name")) c.in_ok-name.name c.in_ok-name.ensures) refl
