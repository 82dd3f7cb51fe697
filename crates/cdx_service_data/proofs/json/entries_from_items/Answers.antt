use Rattle.std.proofs.Common.{◌∙◌}
use Rattle.std.proofs.lemmas.Result.{err_from_is_err_and}
use Rattle.serde_json.specs.View.{items_view}
use Rattle.cdx_schema.specs.Depths.{depth_of}
use Rattle.cdx_service_data.proofs.DataEntries.{flows_ok, flows_err, entries_early}
use Rattle.cdx_service_data.proofs.json.entries_from_items.Goals as goal

pub returns-in_err-list_from_items : goal.returns-in_err-list_from_items
returns-in_err-list_from_items c =
    let p = err_from_is_err_and c.from_residual.result c.from_residual.ensures.1 in
    rw (p.1, p.2) (flows_err c.in_err-list_from_items.field-0.0 (items_view c.args.items.now.items) c.is_known_to.result c.args.context.version (depth_of c.args.context.depth) c.is_known_to.ensures c.if-is_known_to.true c.in_err-list_from_items.ensures)

pub returns-in_ok-list_from_items : goal.returns-in_ok-list_from_items
returns-in_ok-list_from_items c =
    flows_ok (items_view c.args.items.now.items) c.is_known_to.result c.args.context.version (depth_of c.args.context.depth) _ c.is_known_to.ensures c.if-is_known_to.true c.in_ok-list_from_items.ensures

pub returns-in_err-list_from_items-2 : goal.returns-in_err-list_from_items-2
returns-in_err-list_from_items-2 c =
    let p = err_from_is_err_and c.from_residual-in_err-list_from_items-2.result c.from_residual-in_err-list_from_items-2.ensures.1 in
    rw (p.1, p.2, entries_early (items_view c.args.items.now.items) c.is_known_to.result c.args.context.version (depth_of c.args.context.depth) c.is_known_to.ensures c.if-is_known_to.false) c.in_err-list_from_items-2.ensures

pub returns-in_ok-list_from_items-2 : goal.returns-in_ok-list_from_items-2
returns-in_ok-list_from_items-2 c =
    entries_early (items_view c.args.items.now.items) c.is_known_to.result c.args.context.version (depth_of c.args.context.depth) c.is_known_to.ensures c.if-is_known_to.false ∙ c.in_ok-list_from_items-2.ensures
