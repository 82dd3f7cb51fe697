use Rattle.std.proofs.Common.{[], ◌++◌, refl, sym, ap, ◌∙◌, codes, arith}
use Rattle.cdx_models.specs.Trees.{present, text, each, entity, service}
use Rattle.cdx_models.specs.Records.{entity_tree}
use Rattle.cdx_license.specs.Records.{licenses_tree}
use Rattle.cdx_signature.specs.Records.{signature_tree, signature_there}
use Rattle.cdx_service_data.specs.Records.{data_tree}
use Rattle.cdx_service.specs.Trees.{service_tree, services_tree}
use Rattle.cdx_service.specs.declared.service.Service.TheViews.{out-Service}
use Rattle.cdx_schema.specs.Kinds.{a_list, a_record, a_data, services}
use Rattle.cdx_schema.specs.Table.{of, signature_row}
use Rattle.cdx_schema.specs.Faults.{to_member}
use Rattle.cdx_losses.specs.Losses.{lost, items_lost}
use Rattle.cdx_losses.specs.Walks.{value_lost, below}
use Rattle.cdx_losses.specs.Told.{all_told}
use Rattle.cdx_losses.proofs.Spared.{row_lost}
use Rattle.cdx_losses.proofs.Levels.{text_spared, signature_spared, zone_row, licenses_row, service_lost, services_lost}
use Rattle.cdx_losses.proofs.Walks.{nothing_there, adds_row, adds_same, adds_both, adds_end, adds_absent, adds_unknown, adds_value, adds_inside, round, round_first, rounds_done}
use Rattle.cdx_losses.proofs.Values.{data_written, row_written, value_inside}
use Rattle.cdx_losses.proofs.Gone.{unchanged}
use Rattle.cdx_losses.proofs.nested.+services.Goals as goal
use Rattle.cdx_service.proofs.Written.{service_counts}

pub lose_service-returns : goal.lose_service-returns
lose_service-returns t c =
    let r1 = row_lost c.args.road.version c.args.road.trips (of (a_record entity) "provider") (present entity_tree (out-Service c.args.held.now).provider) in
    let r2 = row_lost c.args.road.version c.args.road.trips (of a_data "data") (present data_tree (out-Service c.args.held.now).data_items) in
    let r3 = row_lost c.args.road.version c.args.road.trips licenses_row (present licenses_tree (out-Service c.args.held.now).licenses) in
    let r4 = row_lost c.args.road.version c.args.road.trips (of (a_list services) "services") (present services_tree (out-Service c.args.held.now).services) in
    let r5 = row_lost c.args.road.version c.args.road.trips signature_row (present signature_tree (out-Service c.args.held.now).signature) in
    let r6 = row_lost c.args.road.version c.args.road.trips zone_row (present text (out-Service c.args.held.now).trust_zone) in
    let a = c.args.walk.now in
    let w1 = c.lose_row.new.walk in
    let w2 = c.lose_row-2.new.walk in
    let w3 = c.lose_row-3.new.walk in
    let w4 = c.lose_services_row.new.walk in
    let w5 = c.record_member.new.self in
    let w6 = c.record_member-2.new.self in
    adds_same (r1 ++ (r2 ++ (r3 ++ (r4 ++ (r5 ++ (r6 ++ [])))))) (lost c.args.road.version c.args.road.trips (service_tree c.args.held.now) (a_record service)) a w6 (service_lost c.args.road.version c.args.road.trips c.args.held.now)
    (adds_both r1 (r2 ++ (r3 ++ (r4 ++ (r5 ++ (r6 ++ []))))) a w1 w6 (adds_value c.args.road (of (a_record entity) "provider") (codes "provider") (present entity_tree (out-Service c.args.held.now).provider) a w1 refl (row_written entity_tree (λ y. refl) (out-Service c.args.held.now).provider) refl c.in_ok-lose_row.ensures)
    (adds_both r2 (r3 ++ (r4 ++ (r5 ++ (r6 ++ [])))) w1 w2 w6 (adds_value c.args.road (of a_data "data") (codes "data") (present data_tree (out-Service c.args.held.now).data_items) w1 w2 refl (row_written data_tree data_written (out-Service c.args.held.now).data_items) refl c.in_ok-lose_row-2.ensures)
    (adds_both r3 (r4 ++ (r5 ++ (r6 ++ []))) w2 w3 w6 (adds_value c.args.road licenses_row (codes "licenses") (present licenses_tree (out-Service c.args.held.now).licenses) w2 w3 refl (row_written licenses_tree (λ y. refl) (out-Service c.args.held.now).licenses) refl c.in_ok-lose_row-3.ensures)
    (adds_both r4 (r5 ++ (r6 ++ [])) w3 w4 w6 (adds_inside c.args.road.version c.args.road.trips (of (a_list services) "services") (codes "services") (present services_tree (out-Service c.args.held.now).services) w3 w4 refl (unchanged c.args.road.version (a_list services) (present services_tree (out-Service c.args.held.now).services) refl) refl c.in_ok-lose_services_row.ensures)
    (adds_both r5 (r6 ++ []) w4 w5 w6 (adds_unknown signature_tree c.args.road.version c.args.road.trips signature_row (codes "signature") (out-Service c.args.held.now).signature c.unknown.result w4 w5 refl signature_spared signature_there refl c.unknown.ensures c.in_ok-record_member.ensures)
    (adds_end r6 w5 w6 (adds_unknown text c.args.road.version c.args.road.trips zone_row (codes "trustZone") (out-Service c.args.held.now).trust_zone c.unknown-2.result w5 w6 refl text_spared (λ y. refl) refl c.unknown-2.ensures c.in_ok-record_member-2.ensures)))))))

pub lose_services_row-returns-in-None : goal.lose_services_row-returns-in-None
lose_services_row-returns-in-None t c =
    adds_absent services_tree (λ t. lost c.args.road.version c.args.road.trips t (a_list services)) (to_member (codes "services")) c.args.held.now c.args.walk.now (nothing_there c.args.road.version c.args.road.trips (a_list services)) c.in-None.is

pub lose_services_row-returns-in_ok-lose_services-in-Some : goal.lose_services_row-returns-in_ok-lose_services-in-Some
lose_services_row-returns-in_ok-lose_services-in-Some t c =
    adds_row services_tree (λ t. lost c.args.road.version c.args.road.trips t (a_list services)) (to_member (codes "services")) c.in-Some.held c.args.held.now c.args.walk.now c.enter_member.new.self c.lose_services.new.walk c.leave.new.self c.depth-depth.result
    c.in-Some.is c.in_ok-enter_member-in-Some.ensures.path c.enter_member.ensures.losses c.in_ok-lose_services-in-Some.ensures c.depth-depth.ensures c.leave.ensures.path c.leave.ensures.losses

pub lose_services-loop-i-init : goal.lose_services-loop-i-init
lose_services-loop-i-init t c = (
  refl,
  round_first service_tree (a_record service) c.args.road c.as_slice-item-items.result.now (lost c.args.road.version c.args.road.trips (services_tree c.args.held.now) (a_list services)) c.args.walk.now (services_lost c.args.road.version c.args.road.trips c.args.held.now ∙ ap (λ z. items_lost c.args.road.version c.args.road.trips (each service_tree z) (a_record service) 0) (sym c.as_slice-item-items.ensures)),
)

pub lose_services-loop-i-preserved : goal.lose_services-loop-i-preserved
lose_services-loop-i-preserved t c =
    round service_tree (a_record service) c.args.road c.as_slice-item-items.result.now c.loop-i.i c.item-item.result c.args.walk.now c.loop-i.walk c.enter_item.new.self c.lose_service.new.walk c.leave.new.self c.depth-depth.result (all_told c.args.walk.now.losses ++ below c.args.walk.now.path.items (lost c.args.road.version c.args.road.trips (services_tree c.args.held.now) (a_list services))) c.loop-i-test.true c.item-item.is c.loop-i.invariant
    c.in_ok-enter_item.ensures.path c.enter_item.ensures.losses
    (adds_same (lost c.args.road.version c.args.road.trips (service_tree c.item-item.result) (a_record service)) (value_lost c.args.road (service_tree c.item-item.result) (a_record service)) c.enter_item.new.self c.lose_service.new.walk (value_inside c.args.road (service_tree c.item-item.result) (a_record service) refl (service_counts c.item-item.result)) c.in_ok-lose_service.ensures)
    c.depth-depth.ensures c.leave.ensures.path c.leave.ensures.losses

pub lose_services-returns : goal.lose_services-returns
lose_services-returns t c = (c.loop-i.invariant.0, rounds_done service_tree (a_record service) c.args.road c.args.walk.now.path.items c.as_slice-item-items.result.now c.loop-i.i c.loop-i.walk.losses (all_told c.args.walk.now.losses ++ below c.args.walk.now.path.items (lost c.args.road.version c.args.road.trips (services_tree c.args.held.now) (a_list services))) (omega arith) c.loop-i.invariant.1)
