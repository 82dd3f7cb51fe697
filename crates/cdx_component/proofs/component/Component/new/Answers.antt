use Rattle.cdx_component.specs.Laws.{component_tree-roll}
use Rattle.cdx_component.proofs.component.Component.new.Goals as goal

pub returns : goal.returns
returns c = component_tree-roll _
