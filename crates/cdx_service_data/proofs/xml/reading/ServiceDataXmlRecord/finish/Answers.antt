use Rattle.std.proofs.Common.{Err, refl, ap}
use Rattle.std.specs.Prelude.{codes}
use Rattle.std.proofs.lemmas.Result.{err_from_is_err_and}
use Rattle.cdx_models.specs.Trees.{service_data}
use Rattle.cdx_schema.specs.Faults.{lacking}
use Rattle.cdx_schema.specs.Table.{rows}
use Rattle.cdx_schema.specs.XmlReading.{ended}
use Rattle.cdx_leaf.specs.Attribute.{or_fault}
use Rattle.cdx_leaf.proofs.Attributes.{or_fault_ok, or_fault_err}
use Rattle.cdx_leaf.proofs.Loop.{fails_along}
use Rattle.cdx_service_data.specs.Parts.{service_data_part}
use Rattle.cdx_service_data.proofs.xml.reading.ServiceDataXmlRecord.finish.Goals as goal

pub returns-in_err-classification : goal.returns-in_err-classification
unfolding rows ended
returns-in_err-classification c =
    let q = err_from_is_err_and c.from_residual.result c.from_residual.ensures.1 in
    let fault = lacking c.args.closed.now.place c.args.closed.now.element.now.local_name (codes "classification") in
    rw (q.1, q.2) (fails_along c.in_err-classification.field-0.0 _ (or_fault c.args.part.classification fault) (ended (rows service_data) (service_data_part c.args.part) c.args.closed.now.version c.args.closed.now.element.now.local_name c.args.closed.now.place)
    (λ f is. let e = or_fault_err c.args.part.classification fault f is in rw (e.0) (ap (λ x. Err x) e.1)) c.in_err-classification.ensures)

pub returns : goal.returns
unfolding rows ended
returns c = rw (or_fault_ok c.args.part.classification (lacking c.args.closed.now.place c.args.closed.now.element.now.local_name (codes "classification")) c.in_ok-classification.classification c.in_ok-classification.ensures) refl
