use Rattle.std.proofs.Common.{refl, arith, ap, sym, ◌∙◌, Ok, Some}
use Rattle.std.proofs.lemmas.Result.{err_from_is_err_and}
use Rattle.serde_json.specs.View.{view, items_view}
use Rattle.cdx_json.specs.SeenOf.{seen_of}
use Rattle.cdx_schema.specs.Table.{rows, list}
use Rattle.cdx_schema.specs.Results.{◌>>=◌}
use Rattle.cdx_json.specs.ByRows.{rows_made}
use Rattle.cdx_schema.specs.Depths.{depth_of}
use Rattle.cdx_json.proofs.Rows.{may_none, live_ok, live_err, fails_then}
use Rattle.cdx_json.proofs.Loops.{reading_items, goes_on, stops, ends}
use Rattle.cdx_models.specs.Trees.{service, items}
use Rattle.cdx_schema.specs.Kinds.{services, a_list, a_record, optional}
use Rattle.cdx_json.proofs.Values.{list_err, list_gives}
use Rattle.cdx_service.specs.Trees.{service_tree, services_tree, service_items}
use Rattle.cdx_service.specs.Laws.{services_tree-out}
use Rattle.cdx_service.specs.Groups.{service_by_groups}
use Rattle.cdx_service.proofs.Deep.{service_deep, service_none, service_some}
use Rattle.cdx_service.proofs.json.reading.+service_read.Goals as goal

pub read_service-returns-then-context-ge32 : goal.read_service-returns-then-context-ge32
read_service-returns-then-context-ge32 t c = service_deep c.here.result (view c.args.value.now) c.args.context.version (depth_of c.args.context.depth) (omega arith) c.here.ensures

pub read_service-returns-in-None : goal.read_service-returns-in-None
read_service-returns-in-None t c = service_none c.here-in-None.result (view c.args.value.now) c.args.context.version (depth_of c.args.context.depth) c.if-context-ge32.false c.in-None.ensures c.here-in-None.ensures

pub read_service-returns-in_ok-members-in-Some : goal.read_service-returns-in_ok-members-in-Some
read_service-returns-in_ok-members-in-Some t c =
    service_some c.service_from_members.result (view c.args.value.now) (seen_of c.in_ok-members-in-Some.members.members.items) c.args.context.version (depth_of c.args.context.depth) c.if-context-ge32.false (ap Some c.in_ok-members-in-Some.ensures ∙ c.in-Some.ensures) c.service_from_members.ensures

pub service_from_members-returns-in_err-service_naming : goal.service_from_members-returns-in_err-service_naming
unfolding service_by_groups
service_from_members-returns-in_err-service_naming t c =
    let p = err_from_is_err_and c.from_residual.result c.from_residual.ensures.1 in
    rw (p.1, p.2) (fails_then _ _ _ c.in_err-service_naming.ensures)

pub service_from_members-returns-in-Err : goal.service_from_members-returns-in-Err
unfolding service_by_groups
service_from_members-returns-in-Err t c = rw (c.in_ok-service_naming.ensures) (fails_then _ _ _ c.in-Err.ensures)

pub service_from_members-returns-in-Err-read_service_contents : goal.service_from_members-returns-in-Err-read_service_contents
unfolding service_by_groups
service_from_members-returns-in-Err-read_service_contents t c = rw (c.in_ok-service_naming.ensures, c.in-Ok.ensures) (fails_then _ _ _ c.in-Err-read_service_contents.ensures)

pub service_from_members-returns : goal.service_from_members-returns
unfolding service_by_groups
service_from_members-returns t c = rw (c.in_ok-service_naming.ensures, c.in-Ok.ensures, c.in-Ok-read_service_contents.ensures) (ap Ok (sym c.assemble.ensures))

pub services_from_items-returns-in-Err : goal.services_from_items-returns-in-Err
services_from_items-returns-in-Err t c =
    stops (reading_items service_tree (a_record service) c.args.context c.args.items.now.items c.deref-item-items.result.now (service_items c.loop-i.list) c.loop-i.i) c.item-item.result c.in-Err.e c.at_item.result c.loop-i-test.true c.item-item.is c.in-Err.ensures c.at_item.ensures c.loop-i.invariant

pub services_from_items-loop-i-preserved : goal.services_from_items-loop-i-preserved
services_from_items-loop-i-preserved t c =
    rw c.in_ok-push-in-Ok.ensures.ok (goes_on (reading_items service_tree (a_record service) c.args.context c.args.items.now.items c.deref-item-items.result.now (service_items c.loop-i.list) c.loop-i.i) c.item-item.result c.in-Ok.held c.loop-i-test.true c.item-item.is c.in-Ok.ensures c.loop-i.invariant)

pub services_from_items-returns : goal.services_from_items-returns
services_from_items-returns t c =
    ap (λ r. r >>= λ ts. Ok (items ts)) (ends (reading_items service_tree (a_record service) c.args.context c.args.items.now.items c.deref-item-items.result.now (service_items c.loop-i.list) c.loop-i.i) (omega arith) c.loop-i.invariant) ∙ ap Ok (sym (services_tree-out c.loop-i.list))

pub read_services-returns-in-None : goal.read_services-returns-in-None
read_services-returns-in-None t c = list_err c.here.result (view c.args.value.now) services c.args.context.version (depth_of c.args.context.depth) c.in-None.ensures c.here.ensures

pub read_services-returns-in-Some : goal.read_services-returns-in-Some
unfolding list
read_services-returns-in-Some t c =
    list_gives services_tree c.services_from_items.result (view c.args.value.now) (items_view c.in-Some.items.now.items) (a_record service) services c.args.context.version (depth_of c.args.context.depth) refl c.in-Some.ensures c.services_from_items.ensures

pub read_service_contents-returns-in_err-properties : goal.read_service_contents-returns-in_err-properties
unfolding rows_made rows list
read_service_contents-returns-in_err-properties t c =
    let p = err_from_is_err_and c.from_residual.result c.from_residual.ensures.1 in
    rw (p.1, p.2) (fails_then _ _ _ c.in_err-properties.ensures)

pub read_service_contents-returns-in_err-services : goal.read_service_contents-returns-in_err-services
unfolding rows_made rows list
read_service_contents-returns-in_err-services t c =
    let p = err_from_is_err_and c.from_residual-in_err-services.result c.from_residual-in_err-services.ensures.1 in
    rw (p.1, p.2, c.in_ok-properties.ensures) (fails_then _ _ _ c.in_err-services.ensures)

pub read_service_contents-returns-in_err-signature : goal.read_service_contents-returns-in_err-signature
unfolding rows_made rows list
read_service_contents-returns-in_err-signature t c =
    let p = err_from_is_err_and c.from_residual-in_err-signature.result c.from_residual-in_err-signature.ensures.1 in
    rw (p.1, p.2, c.in_ok-properties.ensures, c.in_ok-services.ensures) (fails_then _ _ _ c.in_err-signature.ensures)

pub read_service_contents-returns-in_err-trust_zone : goal.read_service_contents-returns-in_err-trust_zone
unfolding rows_made rows list
read_service_contents-returns-in_err-trust_zone t c =
    let p = err_from_is_err_and c.from_residual-in_err-trust_zone.result c.from_residual-in_err-trust_zone.ensures.1 in
    rw (p.1, p.2, c.in_ok-properties.ensures, c.in_ok-services.ensures, c.in_ok-signature.ensures) (fails_then _ _ _ c.in_err-trust_zone.ensures)

pub read_service_contents-returns : goal.read_service_contents-returns
unfolding rows_made rows list
read_service_contents-returns t c = rw (c.in_ok-properties.ensures, c.in_ok-services.ensures, c.in_ok-signature.ensures, c.in_ok-trust_zone.ensures) refl

pub read_services_row-returns-in-None : goal.read_services_row-returns-in-None
read_services_row-returns-in-None t c = may_none c.args.name.now (a_list services) (seen_of c.args.map.now.members.items) c.args.context.version (depth_of c.args.context.depth) c.in-None.ensures

pub read_services_row-returns-in-Ok : goal.read_services_row-returns-in-Ok
read_services_row-returns-in-Ok t c = live_ok c.args.name.now optional (a_list services) (seen_of c.args.map.now.members.items) c.args.context.version (depth_of c.args.context.depth) (view c.in-Some.value.now) (services_tree c.in-Ok.held) c.in-Some.ensures c.in-Ok.ensures

pub read_services_row-returns-in-Err : goal.read_services_row-returns-in-Err
read_services_row-returns-in-Err t c = live_err c.in-Err.e c.at_member.result c.args.name.now optional (a_list services) (seen_of c.args.map.now.members.items) c.args.context.version (depth_of c.args.context.depth) (view c.in-Some.value.now) c.in-Some.ensures c.in-Err.ensures c.at_member.ensures
