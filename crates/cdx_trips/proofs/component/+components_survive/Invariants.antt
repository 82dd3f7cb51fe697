use Rattle.std.proofs.Common.{◌≡◌}
use Rattle.cdx_models.specs.Trees.{component}
use Rattle.cdx_schema.specs.Kinds.{components, a_list, a_record}
use Rattle.cdx_nest.specs.Nested.{component_tree, components_tree}
use Rattle.cdx_trips.specs.Surviving.{survives}
use Rattle.cdx_trips.proofs.Items.{from}
use Rattle.cdx_trips.proofs.component.+components_survive.Given as goal

-- the rest decides
abbrev pub invariant-components_survive-loop-item : goal.invariant-components_survive-loop-item
invariant-components_survive-loop-item l = from component_tree (a_record component) l.item-items l.item-index ≡ survives (components_tree l.held) (a_list components)
