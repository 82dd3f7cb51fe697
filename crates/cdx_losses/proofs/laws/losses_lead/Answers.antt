use Rattle.cdx_losses.proofs.Leads.{losses_lead}
use Rattle.cdx_losses.proofs.laws.losses_lead.Goals as goal

pub returns : goal.returns
returns c = losses_lead
