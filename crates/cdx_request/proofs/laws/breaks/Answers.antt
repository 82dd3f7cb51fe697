use Rattle.cdx_request.proofs.Breaking.{breaks_law}
use Rattle.cdx_request.proofs.laws.breaks.Goals as goal

pub returns : goal.returns
returns c = breaks_law
