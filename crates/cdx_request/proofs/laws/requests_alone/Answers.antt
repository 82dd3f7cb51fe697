use Rattle.cdx_request.proofs.RequestsAlone.{sent_alone, docs_alone, hops_alone, asked_alone, requests_alone}
use Rattle.cdx_request.proofs.laws.requests_alone.Goals as goal

pub returns : goal.returns
returns c = record { sent = sent_alone; docs = docs_alone; hops = hops_alone; asked = asked_alone; requests = requests_alone }
