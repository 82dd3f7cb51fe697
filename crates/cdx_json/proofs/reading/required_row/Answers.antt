use Rattle.serde_json.specs.View.{view}
use Rattle.cdx_json.specs.SeenOf.{seen_of}
use Rattle.cdx_schema.specs.Kinds.{required}
use Rattle.cdx_json.proofs.Rows.{must_none, must_null, live_ok, live_err}
use Rattle.cdx_schema.specs.Depths.{depth_of}
use Rattle.cdx_json.proofs.reading.required_row.Goals as goal

pub returns-in-None-member : goal.returns-in-None-member
returns-in-None-member g c = must_none c.missing.result c.args.name.now g.T.Kinded.kind (seen_of c.args.map.now.members.items) c.args.context.version (depth_of c.args.context.depth) c.in-None-member.ensures c.missing.ensures

pub returns-in-Some-member : goal.returns-in-Some-member
returns-in-Some-member g c = must_null c.here.result c.at_member.result c.args.name.now g.T.Kinded.kind (seen_of c.args.map.now.members.items) c.args.context.version (depth_of c.args.context.depth) (view c.in-Some-member.field-0.now) c.in-Some-member.ensures c.in-None.ensures c.here.ensures c.at_member.ensures

pub returns-in-Ok : goal.returns-in-Ok
returns-in-Ok g c = live_ok c.args.name.now required g.T.Kinded.kind (seen_of c.args.map.now.members.items) c.args.context.version (depth_of c.args.context.depth) (view c.in-Some.value.now) (g.T.HasTree.tree c.in-Ok.held) c.in-Some.ensures c.in-Ok.ensures

pub returns-in-Err : goal.returns-in-Err
returns-in-Err g c = live_err c.in-Err.e c.at_member-in-Err.result c.args.name.now required g.T.Kinded.kind (seen_of c.args.map.now.members.items) c.args.context.version (depth_of c.args.context.depth) (view c.in-Some.value.now) c.in-Some.ensures c.in-Err.ensures c.at_member-in-Err.ensures
