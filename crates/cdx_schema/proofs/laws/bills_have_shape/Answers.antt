use Rattle.cdx_schema.proofs.Stated.{bills_shaped}
use Rattle.cdx_schema.proofs.laws.bills_have_shape.Goals as goal

pub returns : goal.returns
returns c = bills_shaped
