use Rattle.std.proofs.Common.{refl, arith, ap, sym, ◌∙◌}
use Rattle.cdx_schema.specs.Table.{rows, list}
use Rattle.cdx_schema.specs.Keeping.{keep}
use Rattle.cdx_schema.specs.JsonSpelling.{jspell}
use Rattle.cdx_json.specs.KeptRows.{rows_put}
use Rattle.cdx_json.specs.Spellings.{spelling_data, spelling_members}
use Rattle.cdx_json.proofs.Spelled.{field_put, nothing_put, list_spelled}
use Rattle.cdx_models.specs.Trees.{service}
use Rattle.cdx_schema.specs.Kinds.{services, a_list, a_record}
use Rattle.cdx_service.specs.Trees.{service_tree, services_tree, service_items}
use Rattle.cdx_service.specs.Laws.{services_tree-out}
use Rattle.cdx_service.specs.Stays.{services_stay}
use Rattle.cdx_service.proofs.Grouped.{service_spelled}
use Rattle.cdx_service.proofs.json.writing.+service_write.Goals as goal

pub write_service-returns : goal.write_service-returns
write_service-returns t c = service_spelled c.put_service_contents.new.map c.args.held.now c.args.target.version (c.in_ok-put_service_contents.ensures ∙ rw (c.in_ok-put_service_access.ensures, c.in_ok-put_service_naming.ensures, c.new-map.ensures.items) refl)

pub write_services-returns : goal.write_services-returns
unfolding list
write_services-returns t c =
    list_spelled service_tree (a_record service) services c.args.target.version c.loop-item.values c.deref-item-items.result.now (service_items c.args.held.now) c.loop-item.item-index refl c.deref-item-items.ensures.value (omega arith) c.loop-item.invariant
    ∙ ap (λ u. jspell (keep c.args.target.version u (a_list services)) c.args.target.version (a_list services)) (sym (services_tree-out c.args.held.now))

pub put_service_contents-returns : goal.put_service_contents-returns
unfolding rows_put rows list
put_service_contents-returns t c = rw (c.in_ok-put_row_since-2.ensures, c.in_ok-put_row_since.ensures, c.in_ok-put_services_row.ensures, c.in_ok-put_row.ensures) refl

pub put_services_row-returns-in-None : goal.put_services_row-returns-in-None
put_services_row-returns-in-None t c = rw c.in-None.is (nothing_put c.args.name.now (a_list services) services_tree c.args.target.version (spelling_members c.args.map.now.items))

pub put_services_row-returns-in_ok-value-in-Some : goal.put_services_row-returns-in_ok-value-in-Some
put_services_row-returns-in_ok-value-in-Some t c =
    rw c.in-Some.is (field_put c.put.result c.args.name.now (a_list services) (services_tree c.in-Some.held) c.args.target.version (spelling_data c.in_ok-value-in-Some.value) (spelling_members c.args.map.now.items) (spelling_members c.put.new.members.items) (services_stay c.args.target.version c.args.target.version c.in-Some.held) c.in_ok-value-in-Some.ensures c.put.ensures)
