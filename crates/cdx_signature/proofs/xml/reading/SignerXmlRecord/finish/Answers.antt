use Rattle.std.proofs.Common.{Err, refl, ap}
use Rattle.std.specs.Prelude.{codes}
use Rattle.std.proofs.lemmas.Result.{err_from_is_err_and}
use Rattle.cdx_models.specs.Trees.{signer}
use Rattle.cdx_schema.specs.Faults.{lacking}
use Rattle.cdx_schema.specs.Table.{rows}
use Rattle.cdx_schema.specs.XmlReading.{ended}
use Rattle.cdx_leaf.specs.Attribute.{or_fault}
use Rattle.cdx_signature.specs.Parts.{signer_part}
use Rattle.cdx_leaf.proofs.Attributes.{or_fault_ok, or_fault_err}
use Rattle.cdx_signature.proofs.Algorithms.{name_of_algorithm}
use Rattle.cdx_leaf.proofs.Loop.{fails_along}
use Rattle.cdx_signature.proofs.xml.reading.SignerXmlRecord.finish.Goals as goal

pub returns-in_err-algorithm : goal.returns-in_err-algorithm
unfolding rows ended
returns-in_err-algorithm c =
    let q = err_from_is_err_and c.from_residual.result c.from_residual.ensures.1 in
    rw (q.1, q.2) (fails_along c.in_err-algorithm.field-0.0 _ (or_fault c.args.part.algorithm (lacking c.args.closed.now.place c.args.closed.now.element.now.local_name (codes "algorithm"))) (ended (rows signer) (signer_part c.args.part) c.args.closed.now.version c.args.closed.now.element.now.local_name c.args.closed.now.place)
    (λ f is. let e = or_fault_err c.args.part.algorithm (lacking c.args.closed.now.place c.args.closed.now.element.now.local_name (codes "algorithm")) f is in rw (e.0) (ap (λ x. Err x) e.1)) c.in_err-algorithm.ensures)

pub returns-in_err-value : goal.returns-in_err-value
unfolding rows ended
returns-in_err-value c =
    let q = err_from_is_err_and c.from_residual-in_err-value.result c.from_residual-in_err-value.ensures.1 in
    rw (q.1, q.2) (fails_along c.in_err-value.field-0.0 _ (or_fault c.args.part.value (lacking c.args.closed.now.place c.args.closed.now.element.now.local_name (codes "value"))) (ended (rows signer) (signer_part c.args.part) c.args.closed.now.version c.args.closed.now.element.now.local_name c.args.closed.now.place)
    (λ f is. let e = or_fault_err c.args.part.value (lacking c.args.closed.now.place c.args.closed.now.element.now.local_name (codes "value")) f is in rw (or_fault_ok c.args.part.algorithm (lacking c.args.closed.now.place c.args.closed.now.element.now.local_name (codes "algorithm")) c.in_ok-algorithm.algorithm c.in_ok-algorithm.ensures, e.0) (ap (λ x. Err x) e.1)) c.in_err-value.ensures)

pub returns : goal.returns
unfolding rows ended
returns c = rw (or_fault_ok c.args.part.algorithm (lacking c.args.closed.now.place c.args.closed.now.element.now.local_name (codes "algorithm")) c.in_ok-algorithm.algorithm c.in_ok-algorithm.ensures, or_fault_ok c.args.part.value (lacking c.args.closed.now.place c.args.closed.now.element.now.local_name (codes "value")) c.in_ok-value.value c.in_ok-value.ensures, c.in_ok-new_unchecked.ensures, c.as_str.ensures, name_of_algorithm c.in_ok-algorithm.algorithm) refl
