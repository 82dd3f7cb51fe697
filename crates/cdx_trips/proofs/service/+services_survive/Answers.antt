use Rattle.std.proofs.Common.{sym, ap, ◌∙◌, arith}
use Rattle.cdx_models.specs.Trees.{service, each}
use Rattle.cdx_schema.specs.Kinds.{a_record}
use Rattle.cdx_nest.specs.Nested.{service_tree}
use Rattle.cdx_trips.specs.Surviving.{items_survive}
use Rattle.cdx_trips.proofs.Items.{from_end, from_goes, from_stops}
use Rattle.cdx_trips.proofs.Nested.{service_item, services_items}
use Rattle.cdx_trips.proofs.service.+services_survive.Goals as goal

pub services_survive-loop-item-init : goal.services_survive-loop-item-init
services_survive-loop-item-init t c = ap (λ xs. items_survive (each service_tree xs) (a_record service)) c.as_slice-item-items.ensures ∙ sym (services_items c.args.held.now)

pub services_survive-returns-then-not-service_survives : goal.services_survive-returns-then-not-service_survives
services_survive-returns-then-not-service_survives t c =
    from_stops service_tree (a_record service) c.as_slice-item-items.result.now c.loop-item.item-index c.item-item.result _ c.loop-item-test.true c.item-item.is (service_item c.item-item.result ∙ (sym c.service_survives.ensures ∙ c.if-not-service_survives.true)) c.loop-item.invariant

pub services_survive-loop-item-preserved : goal.services_survive-loop-item-preserved
services_survive-loop-item-preserved t c =
    from_goes service_tree (a_record service) c.as_slice-item-items.result.now c.loop-item.item-index c.item-item.result _ c.loop-item-test.true c.item-item.is (service_item c.item-item.result ∙ (sym c.service_survives.ensures ∙ c.if-not-service_survives.false)) c.loop-item.invariant

pub services_survive-returns : goal.services_survive-returns
services_survive-returns t c = sym (from_end service_tree (a_record service) c.as_slice-item-items.result.now c.loop-item.item-index (omega arith)) ∙ c.loop-item.invariant
