use Rattle.serde_json.specs.View.{view}
use Rattle.cdx_json.specs.SeenOf.{seen_of}
use Rattle.cdx_schema.specs.Kinds.{optional}
use Rattle.cdx_json.proofs.Rows.{may_none, live_ok, live_err}
use Rattle.cdx_schema.specs.Depths.{depth_of}
use Rattle.cdx_json.proofs.reading.optional_row.Goals as goal

pub returns-in-None : goal.returns-in-None
returns-in-None g c = may_none c.args.name.now g.T.Kinded.kind (seen_of c.args.map.now.members.items) c.args.context.version (depth_of c.args.context.depth) c.in-None.ensures

pub returns-in-Ok : goal.returns-in-Ok
returns-in-Ok g c = live_ok c.args.name.now optional g.T.Kinded.kind (seen_of c.args.map.now.members.items) c.args.context.version (depth_of c.args.context.depth) (view c.in-Some.value.now) (g.T.HasTree.tree c.in-Ok.held) c.in-Some.ensures c.in-Ok.ensures

pub returns-in-Err : goal.returns-in-Err
returns-in-Err g c = live_err c.in-Err.e c.at_member.result c.args.name.now optional g.T.Kinded.kind (seen_of c.args.map.now.members.items) c.args.context.version (depth_of c.args.context.depth) (view c.in-Some.value.now) c.in-Some.ensures c.in-Err.ensures c.at_member.ensures
