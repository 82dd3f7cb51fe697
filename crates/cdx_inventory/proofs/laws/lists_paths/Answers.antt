use Rattle.cdx_inventory.proofs.Listed.{lists_paths}
use Rattle.cdx_inventory.proofs.laws.lists_paths.Goals as goal

pub returns : goal.returns
returns c = lists_paths
