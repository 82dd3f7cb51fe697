use Rattle.std.proofs.Common.{Err, refl, ap}
use Rattle.std.specs.Prelude.{codes}
use Rattle.std.proofs.lemmas.Result.{err_from_is_err_and}
use Rattle.cdx_models.specs.Trees.{license}
use Rattle.cdx_schema.specs.Faults.{lacking}
use Rattle.cdx_schema.specs.Table.{rows}
use Rattle.cdx_schema.specs.XmlReading.{ended}
use Rattle.cdx_leaf.specs.Attribute.{or_fault}
use Rattle.cdx_license.specs.Parts.{license_part}
use Rattle.cdx_leaf.proofs.Attributes.{or_fault_ok, or_fault_err}
use Rattle.cdx_license.specs.Records.{identifier_there}
use Rattle.cdx_leaf.proofs.Loop.{fails_along}
use Rattle.cdx_license.proofs.xml.reading.LicenseXmlRecord.finish.Goals as goal

pub returns-in_err-license_identifier : goal.returns-in_err-license_identifier
unfolding rows ended
returns-in_err-license_identifier c =
    let q = err_from_is_err_and c.from_residual.result c.from_residual.ensures.1 in
    rw (q.1, q.2) (fails_along c.in_err-license_identifier.field-0.0 _ (or_fault c.args.part.license_identifier (lacking c.args.closed.now.place c.args.closed.now.element.now.local_name (codes "id or name"))) (ended (rows license) (license_part c.args.part) c.args.closed.now.version c.args.closed.now.element.now.local_name c.args.closed.now.place)
    (λ f is. let e = or_fault_err c.args.part.license_identifier (lacking c.args.closed.now.place c.args.closed.now.element.now.local_name (codes "id or name")) f is in rw (e.0) (ap (λ x. Err x) e.1)) c.in_err-license_identifier.ensures)

pub returns : goal.returns
unfolding rows ended
returns c = rw (or_fault_ok c.args.part.license_identifier (lacking c.args.closed.now.place c.args.closed.now.element.now.local_name (codes "id or name")) c.in_ok-license_identifier.license_identifier c.in_ok-license_identifier.ensures, identifier_there c.in_ok-license_identifier.license_identifier) refl
