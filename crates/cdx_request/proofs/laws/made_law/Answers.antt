use Rattle.cdx_request.proofs.MadeRoad.{made_law}
use Rattle.cdx_request.proofs.laws.made_law.Goals as goal

pub returns : goal.returns
returns c = made_law
