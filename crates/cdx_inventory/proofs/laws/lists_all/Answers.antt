use Rattle.cdx_inventory.proofs.Listed.{lists_all}
use Rattle.cdx_inventory.proofs.laws.lists_all.Goals as goal

pub returns : goal.returns
returns c = lists_all
