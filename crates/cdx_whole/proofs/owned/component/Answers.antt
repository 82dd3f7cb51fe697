use Rattle.cdx_component.specs.Laws.{component_tree-roll}
use Rattle.cdx_whole.proofs.owned.component.Goals as goal

pub returns : goal.returns
returns c = component_tree-roll _
