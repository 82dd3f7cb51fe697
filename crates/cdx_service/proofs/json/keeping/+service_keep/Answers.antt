use Rattle.std.proofs.Common.{refl, arith, ap, sym, ◌∙◌}
use Rattle.cdx_models.specs.Trees.{service}
use Rattle.cdx_schema.specs.Kinds.{services, a_list, a_record}
use Rattle.cdx_schema.specs.Table.{rows, list}
use Rattle.cdx_schema.specs.Keeping.{kept}
use Rattle.cdx_json.specs.KeptRows.{rows_held}
use Rattle.cdx_json.proofs.Spelled.{list_kept}
use Rattle.cdx_service.specs.Trees.{service_tree, service_items}
use Rattle.cdx_service.specs.Laws.{services_tree-out}
use Rattle.cdx_service.proofs.Grouped.{service_kept}
use Rattle.cdx_service.proofs.json.keeping.+service_keep.Goals as goal

pub keep_service-returns : goal.keep_service-returns
keep_service-returns t c = service_kept c.args.keeping.version c.args.keeping.label _ c.args.held.now _ _ _ c.assemble.ensures c.in_ok-service_naming.ensures c.in-Ok.ensures c.in-Ok-keep_service_contents.ensures

pub keep_services-returns : goal.keep_services-returns
unfolding list
keep_services-returns t c =
    services_tree-out c.loop-item.copies ∙ list_kept service_tree (a_record service) services c.args.keeping.version c.args.keeping.label (service_items c.loop-item.copies) c.deref-item-items.result.now (service_items c.args.held.now) c.loop-item.item-index refl c.deref-item-items.ensures.value (omega arith) c.loop-item.invariant
    ∙ ap (λ u. kept c.args.keeping.version c.args.keeping.label u (a_list services)) (sym (services_tree-out c.args.held.now))

pub keep_service_contents-returns : goal.keep_service_contents-returns
unfolding rows_held rows list
keep_service_contents-returns t c = rw (c.in_ok-properties.ensures, c.in_ok-services.ensures, c.in_ok-signature.ensures, c.in_ok-trust_zone.ensures) refl
