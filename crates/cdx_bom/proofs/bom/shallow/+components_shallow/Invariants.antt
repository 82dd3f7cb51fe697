use Rattle.std.proofs.Common.{◌≡◌}
use Rattle.cdx_schema.specs.Keeping.{is_shallow}
use Rattle.cdx_schema.specs.Depths.{depth_of}
use Rattle.cdx_nest.specs.Nested.{component_tree, components_tree}
use Rattle.cdx_bom.proofs.Nested.{from}
use Rattle.cdx_bom.proofs.bom.shallow.+components_shallow.Given as goal

abbrev pub invariant-components_are_shallow-loop-item : goal.invariant-components_are_shallow-loop-item
invariant-components_are_shallow-loop-item l = from component_tree l.item-items l.item-index (depth_of l.depth) ≡ is_shallow (components_tree l.components) (depth_of l.depth)
