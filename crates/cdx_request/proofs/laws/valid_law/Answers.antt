use Rattle.cdx_request.proofs.RepliesOwed.{valid_law}
use Rattle.cdx_request.proofs.laws.valid_law.Goals as goal

pub returns : goal.returns
returns c = valid_law
