use Rattle.cdx_request.proofs.RequestsBack.{docs_back, requests_back, asked_have_roots, answered_have_roots}
use Rattle.cdx_request.proofs.laws.requests_back.Goals as goal

pub returns : goal.returns
returns c = record { docs = docs_back; requests = requests_back; asked = asked_have_roots; answered = answered_have_roots }
