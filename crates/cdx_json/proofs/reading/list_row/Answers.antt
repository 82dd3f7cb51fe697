use Rattle.serde_json.specs.View.{view}
use Rattle.cdx_json.specs.SeenOf.{seen_of}
use Rattle.cdx_models.specs.Trees.{list_tree}
use Rattle.cdx_schema.specs.Kinds.{else_empty, a_list}
use Rattle.cdx_schema.specs.Depths.{depth_of}
use Rattle.cdx_json.proofs.Rows.{left_out_list, no_null_list, live_ok, live_err}
use Rattle.cdx_json.proofs.reading.list_row.Goals as goal

pub returns-in-None-member : goal.returns-in-None-member
returns-in-None-member g c = λ l h. rw c.new.ensures (left_out_list c.args.name.now (a_list l) (seen_of c.args.map.now.members.items) c.args.context.version (depth_of c.args.context.depth) c.in-None-member.ensures)

pub returns-in-Some-member : goal.returns-in-Some-member
returns-in-Some-member g c = λ l h. no_null_list c.here.result c.at_member.result c.args.name.now (a_list l) (seen_of c.args.map.now.members.items) c.args.context.version (depth_of c.args.context.depth) (view c.in-Some-member.field-0.now) c.in-Some-member.ensures c.in-None.ensures c.here.ensures c.at_member.ensures

pub returns-in-Ok : goal.returns-in-Ok
returns-in-Ok g c = λ l h. live_ok c.args.name.now else_empty (a_list l) (seen_of c.args.map.now.members.items) c.args.context.version (depth_of c.args.context.depth) (view c.in-Some.value.now) (list_tree g.T.HasTree.tree c.in-Ok.held) c.in-Some.ensures (c.in-Ok.ensures l h)

pub returns-in-Err : goal.returns-in-Err
returns-in-Err g c = λ l h. live_err c.in-Err.e c.at_member-in-Err.result c.args.name.now else_empty (a_list l) (seen_of c.args.map.now.members.items) c.args.context.version (depth_of c.args.context.depth) (view c.in-Some.value.now) c.in-Some.ensures (c.in-Err.ensures l h) c.at_member-in-Err.ensures
