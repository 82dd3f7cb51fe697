use Rattle.serde_json.specs.View.{view, items_view}
use Rattle.cdx_schema.specs.Depths.{depth_of}
use Rattle.cdx_service_data.specs.Records.{data_tree}
use Rattle.cdx_service_data.proofs.DataEntries.{data_gives, data_err}
use Rattle.cdx_service_data.proofs.json.DataFromJson.from_json_at.Goals as goal

pub returns-in-None : goal.returns-in-None
returns-in-None c = data_err c.here.result (view c.args.value.now) c.args.context.version (depth_of c.args.context.depth) c.in-None.ensures c.here.ensures

pub returns-in-Some : goal.returns-in-Some
returns-in-Some c = data_gives data_tree c.entries_from_items.result (view c.args.value.now) (items_view c.in-Some.items.now.items) c.args.context.version (depth_of c.args.context.depth) c.in-Some.ensures c.entries_from_items.ensures
