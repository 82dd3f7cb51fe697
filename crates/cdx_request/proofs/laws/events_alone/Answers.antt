use Rattle.cdx_request.proofs.EventsAlone.{events_alone}
use Rattle.cdx_request.proofs.laws.events_alone.Goals as goal

pub returns : goal.returns
returns c = events_alone
