use Rattle.std.proofs.Common.{inl, inr, refl, sym, subst, arith}
use Rattle.cdx_models.specs.Trees.{service, Tree}
use Rattle.cdx_schema.specs.Kinds.{services, a_list, a_record}
use Rattle.cdx_schema.specs.Table.{rows, list}
use Rattle.cdx_schema.specs.Membership.{IsOf}
use Rattle.cdx_service.specs.Trees.{service_tree, service_items}
use Rattle.cdx_service.specs.Laws.{services_tree-out}
use Rattle.cdx_whole.proofs.Lists.{none_told, one_more_told, all_told}
use Rattle.cdx_whole.proofs.Joined.{service_joined}
use Rattle.cdx_whole.proofs.services.+service_told.Goals as goal

pub tell_contents-returns : goal.tell_contents-returns
unfolding rows
tell_contents-returns t c = (c.tell_row.ensures, (c.tell_services_row.ensures, (c.tell_row-2.ensures, (c.tell_row-3.ensures, tt))))

pub tell_service-returns : goal.tell_service-returns
tell_service-returns t c = service_joined c.args.held.now c.tell_naming.ensures c.tell_access.ensures c.tell_contents.ensures

pub tell_services-loop-item-init : goal.tell_services-loop-item-init
tell_services-loop-item-init t c = none_told service_tree (a_record service) c.as_slice-item-items.result.now

pub tell_services-loop-item-preserved : goal.tell_services-loop-item-preserved
tell_services-loop-item-preserved t c =
    one_more_told service_tree (a_record service) c.as_slice-item-items.result.now c.loop-item.item-index c.item-item.result c.loop-item-test.true c.item-item.is c.tell_service.ensures c.loop-item.invariant

pub tell_services-returns : goal.tell_services-returns
unfolding list
tell_services-returns t c =
    let P : Tree → Type 0 = λ x. IsOf x (a_list services) in
    subst P (sym (services_tree-out c.args.held.now)) (tt, all_told service_tree (a_record service) c.as_slice-item-items.result.now (service_items c.args.held.now) c.loop-item.item-index (omega arith) c.as_slice-item-items.ensures c.loop-item.invariant)

pub tell_services_row-returns-in-None : goal.tell_services_row-returns-in-None
tell_services_row-returns-in-None t c = rw c.in-None.is (inl (refl, refl))

pub tell_services_row-returns-in-Some : goal.tell_services_row-returns-in-Some
tell_services_row-returns-in-Some t c = rw c.in-Some.is (inr c.tell_services.ensures)
