use Rattle.std.proofs.Common.{◌≡◌}
use Rattle.cdx_schema.specs.Keeping.{is_shallow}
use Rattle.cdx_schema.specs.Depths.{depth_of}
use Rattle.cdx_nest.specs.Nested.{service_tree, services_tree}
use Rattle.cdx_bom.proofs.Nested.{from}
use Rattle.cdx_bom.proofs.bom.shallow.+services_shallow.Given as goal

abbrev pub invariant-services_are_shallow-loop-item : goal.invariant-services_are_shallow-loop-item
invariant-services_are_shallow-loop-item l = from service_tree l.item-items l.item-index (depth_of l.depth) ≡ is_shallow (services_tree l.services) (depth_of l.depth)
