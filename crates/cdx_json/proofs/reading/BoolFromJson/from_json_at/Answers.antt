use Rattle.serde_json.specs.View.{view}
use Rattle.cdx_json.proofs.Values.{boolean_ok, boolean_err}
use Rattle.cdx_schema.specs.Depths.{depth_of}
use Rattle.cdx_json.proofs.reading.BoolFromJson.from_json_at.Goals as goal

pub returns-in-None : goal.returns-in-None
returns-in-None c = boolean_err c.here.result (view c.args.value.now) c.args.context.version (depth_of c.args.context.depth) c.in-None.ensures c.here.ensures

pub returns-in-Some : goal.returns-in-Some
returns-in-Some c = boolean_ok (view c.args.value.now) c.in-Some.held c.args.context.version (depth_of c.args.context.depth) c.in-Some.ensures
