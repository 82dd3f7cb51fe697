use Rattle.cdx_losses.proofs.Apart.{losses_lie_apart}
use Rattle.cdx_losses.proofs.laws.losses_lie_apart.Goals as goal

pub returns : goal.returns
returns c = losses_lie_apart
