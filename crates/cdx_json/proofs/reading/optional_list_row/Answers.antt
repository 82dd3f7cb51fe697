use Rattle.serde_json.specs.View.{view}
use Rattle.cdx_json.specs.SeenOf.{seen_of}
use Rattle.cdx_models.specs.Trees.{list_tree}
use Rattle.cdx_schema.specs.Kinds.{optional, a_list}
use Rattle.cdx_schema.specs.Depths.{depth_of}
use Rattle.cdx_json.proofs.Rows.{may_none, live_ok, live_err}
use Rattle.cdx_json.proofs.reading.optional_list_row.Goals as goal

pub returns-in-None : goal.returns-in-None
returns-in-None g c = λ l h. may_none c.args.name.now (a_list l) (seen_of c.args.map.now.members.items) c.args.context.version (depth_of c.args.context.depth) c.in-None.ensures

pub returns-in-Ok : goal.returns-in-Ok
returns-in-Ok g c = λ l h. live_ok c.args.name.now optional (a_list l) (seen_of c.args.map.now.members.items) c.args.context.version (depth_of c.args.context.depth) (view c.in-Some.value.now) (list_tree g.T.HasTree.tree c.in-Ok.held) c.in-Some.ensures (c.in-Ok.ensures l h)

pub returns-in-Err : goal.returns-in-Err
returns-in-Err g c = λ l h. live_err c.in-Err.e c.at_member.result c.args.name.now optional (a_list l) (seen_of c.args.map.now.members.items) c.args.context.version (depth_of c.args.context.depth) (view c.in-Some.value.now) c.in-Some.ensures (c.in-Err.ensures l h) c.at_member.ensures
