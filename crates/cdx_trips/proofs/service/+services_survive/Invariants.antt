use Rattle.std.proofs.Common.{◌≡◌}
use Rattle.cdx_models.specs.Trees.{service}
use Rattle.cdx_schema.specs.Kinds.{services, a_list, a_record}
use Rattle.cdx_nest.specs.Nested.{service_tree, services_tree}
use Rattle.cdx_trips.specs.Surviving.{survives}
use Rattle.cdx_trips.proofs.Items.{from}
use Rattle.cdx_trips.proofs.service.+services_survive.Given as goal

-- the rest decides
abbrev pub invariant-services_survive-loop-item : goal.invariant-services_survive-loop-item
invariant-services_survive-loop-item l = from service_tree (a_record service) l.item-items l.item-index ≡ survives (services_tree l.held) (a_list services)
