use Rattle.std.proofs.Common.{Err, refl, ap}
use Rattle.std.specs.Prelude.{codes}
use Rattle.std.proofs.lemmas.Result.{err_from_is_err_and}
use Rattle.cdx_models.specs.Trees.{composition}
use Rattle.cdx_schema.specs.Faults.{lacking}
use Rattle.cdx_schema.specs.Table.{rows}
use Rattle.cdx_schema.specs.XmlReading.{ended}
use Rattle.cdx_leaf.specs.Attribute.{or_fault}
use Rattle.cdx_relations.specs.Parts.{composition_part}
use Rattle.cdx_leaf.proofs.Attributes.{or_fault_ok, or_fault_err}
use Rattle.cdx_leaf.proofs.Loop.{fails_along}
use Rattle.cdx_relations.proofs.xml.reading.composition.CompositionXmlRecord.finish.Goals as goal

pub returns-in_err-aggregate : goal.returns-in_err-aggregate
unfolding rows ended
returns-in_err-aggregate c =
    let q = err_from_is_err_and c.from_residual.result c.from_residual.ensures.1 in
    rw (q.1, q.2) (fails_along c.in_err-aggregate.field-0.0 _ (or_fault c.args.part.aggregate (lacking c.args.closed.now.place c.args.closed.now.element.now.local_name (codes "aggregate"))) (ended (rows composition) (composition_part c.args.part) c.args.closed.now.version c.args.closed.now.element.now.local_name c.args.closed.now.place)
    (λ f is. let e = or_fault_err c.args.part.aggregate (lacking c.args.closed.now.place c.args.closed.now.element.now.local_name (codes "aggregate")) f is in rw (e.0) (ap (λ x. Err x) e.1)) c.in_err-aggregate.ensures)

pub returns : goal.returns
unfolding rows ended
returns c = rw (or_fault_ok c.args.part.aggregate (lacking c.args.closed.now.place c.args.closed.now.element.now.local_name (codes "aggregate")) c.in_ok-aggregate.aggregate c.in_ok-aggregate.ensures) refl
