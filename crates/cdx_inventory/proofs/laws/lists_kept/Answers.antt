use Rattle.cdx_inventory.proofs.Stays.{lists_kept}
use Rattle.cdx_inventory.proofs.laws.lists_kept.Goals as goal

pub returns : goal.returns
returns c = lists_kept
