use Rattle.std.proofs.Common.{◌+◌, ◌-◌, ◌*◌}
use Rattle.cdx_schema.specs.Kinds.{a_record}
use Rattle.cdx_json.proofs.Loops.{reading_items, IsReadSoFar}
use Rattle.cdx_models.specs.Trees.{service}
use Rattle.cdx_service.specs.Trees.{service_tree, service_items}
use Rattle.cdx_service.proofs.json.reading.+service_read.Given as goal

-- Each service is one level deeper, and at most 32 stand in one another.

abbrev pub decreases-read_service : goal.decreases-read_service
decreases-read_service l = 10 * (40 - l.context.depth.services) + 0

abbrev pub decreases-services_from_items : goal.decreases-services_from_items
decreases-services_from_items l = 10 * (40 - l.context.depth.services) + 1

abbrev pub decreases-read_services : goal.decreases-read_services
decreases-read_services l = 10 * (40 - l.context.depth.services) + 2

abbrev pub decreases-read_services_row : goal.decreases-read_services_row
decreases-read_services_row l = 10 * (40 - l.context.depth.services) + 3

abbrev pub decreases-read_service_contents : goal.decreases-read_service_contents
decreases-read_service_contents l = 10 * (40 - l.context.depth.services) + 4

abbrev pub decreases-service_from_members : goal.decreases-service_from_members
decreases-service_from_members l = 10 * (40 - l.context.depth.services) + 5

abbrev pub invariant-services_from_items-loop-i : goal.invariant-services_from_items-loop-i
invariant-services_from_items-loop-i l =
    IsReadSoFar (reading_items service_tree (a_record service) l.context l.items.items l.item-items (service_items l.list) l.i)
