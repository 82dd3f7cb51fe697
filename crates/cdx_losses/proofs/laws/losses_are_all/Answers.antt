use Rattle.cdx_losses.proofs.Strikes.{strikes_roads}
use Rattle.cdx_losses.proofs.laws.losses_are_all.Goals as goal

pub returns : goal.returns
returns c = strikes_roads
