use Rattle.cdx_request.proofs.EventsBack.{events_back}
use Rattle.cdx_request.proofs.laws.events_back.Goals as goal

pub returns : goal.returns
returns c = events_back
