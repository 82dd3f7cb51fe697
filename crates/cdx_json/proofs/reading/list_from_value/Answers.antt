use Rattle.serde_json.specs.View.{view, items_view}
use Rattle.cdx_models.specs.Trees.{list_tree}
use Rattle.cdx_schema.specs.Depths.{depth_of}
use Rattle.cdx_json.proofs.Values.{list_err, list_gives}
use Rattle.cdx_json.proofs.reading.list_from_value.Goals as goal

pub returns-in-None : goal.returns-in-None
returns-in-None g c = λ l h. list_err c.here.result (view c.args.value.now) l c.args.context.version (depth_of c.args.context.depth) c.in-None.ensures c.here.ensures

pub returns-in-Some : goal.returns-in-Some
returns-in-Some g c =
    λ l h. list_gives (list_tree g.T.HasTree.tree) c.list_from_items.result (view c.args.value.now) (items_view c.in-Some.items.now.items) g.T.Kinded.kind l c.args.context.version (depth_of c.args.context.depth) h c.in-Some.ensures c.list_from_items.ensures
