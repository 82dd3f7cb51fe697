use Rattle.std.proofs.Common.{Ok, Some, ap}
use Rattle.std.proofs.lemmas.Result.{err_from_is_err_and}
use Rattle.cdx_schema.specs.Faults.{lacking}
use Rattle.cdx_schema.specs.Results.{◌>>=◌}
use Rattle.cdx_leaf.specs.Attribute.{or_fault}
use Rattle.cdx_leaf.proofs.Records.{first_fails}
use Rattle.cdx_component.proofs.xml.reading.finish.first_child_or_error.Goals as goal

pub returns-in_err-child_or_error-in-V1_3 : goal.returns-in_err-child_or_error-in-V1_3
returns-in_err-child_or_error-in-V1_3 c =
    let q = err_from_is_err_and c.from_residual.result c.from_residual.ensures.1 in
    rw (q.1, q.2, c.in-V1_3.is) (first_fails c.in_err-child_or_error-in-V1_3.field-0.0 _ (or_fault c.args.child (lacking c.args.closed.now.place c.args.closed.now.element.now.local_name c.args.expected.now)) (λ t. Ok (Some t)) c.in_err-child_or_error-in-V1_3.ensures)

pub returns-in_ok-child_or_error-in-V1_3 : goal.returns-in_ok-child_or_error-in-V1_3
returns-in_ok-child_or_error-in-V1_3 c = rw c.in-V1_3.is (ap (λ r. r >>= λ t. Ok (Some t)) c.in_ok-child_or_error-in-V1_3.ensures)
