use Rattle.serde_json.specs.View.{view}
use Rattle.cdx_json.proofs.Values.{text_ok, text_err}
use Rattle.cdx_schema.specs.Depths.{depth_of}
use Rattle.cdx_json.proofs.reading.TextFromJson.from_json_at.Goals as goal

pub returns-in-None : goal.returns-in-None
returns-in-None c = text_err c.here.result (view c.args.value.now) c.args.context.version (depth_of c.args.context.depth) c.in-None.ensures c.here.ensures

pub returns-in_ok-new-in-Some : goal.returns-in_ok-new-in-Some
returns-in_ok-new-in-Some c = rw c.in_ok-new-in-Some.ensures (text_ok (view c.args.value.now) c.in-Some.held.now c.args.context.version (depth_of c.args.context.depth) c.in-Some.ensures)
