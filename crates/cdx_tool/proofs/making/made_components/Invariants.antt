use Rattle.std.proofs.Common.{◌≡◌}
use Rattle.cdx_models.specs.Trees.{each}
use Rattle.cdx_component.specs.Trees.{component_tree, component_items}
use Rattle.cdx_request.specs.Made.{made_components}
use Rattle.cdx_tool.proofs.making.made_components.Given as goal

-- the components so far
abbrev pub invariant-loop-number : goal.invariant-loop-number
invariant-loop-number l = each component_tree (component_items l.components) ≡ made_components 0 l.number
