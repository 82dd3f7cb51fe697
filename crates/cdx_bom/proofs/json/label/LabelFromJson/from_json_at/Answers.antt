use Rattle.serde_json.specs.View.{view}
use Rattle.cdx_schema.specs.Depths.{depth_of}
use Rattle.cdx_bom.proofs.Labels.{label_ok, label_bad, label_wrong}
use Rattle.cdx_bom.proofs.json.label.LabelFromJson.from_json_at.Goals as goal

pub returns-in-None : goal.returns-in-None
returns-in-None c = label_wrong c.here.result (view c.args.value.now) c.args.context.version (depth_of c.args.context.depth) c.in-None.ensures c.here.ensures

pub returns-in-None-from_text : goal.returns-in-None-from_text
returns-in-None-from_text c = label_bad c.here-in-None-from_text.result (view c.args.value.now) c.in-Some.text.now c.args.context.version (depth_of c.args.context.depth) c.in-Some.ensures c.in-None-from_text.ensures c.here-in-None-from_text.ensures

pub returns-in-Some-from_text : goal.returns-in-Some-from_text
returns-in-Some-from_text c = label_ok (view c.args.value.now) c.in-Some.text.now c.in-Some-from_text.version c.args.context.version (depth_of c.args.context.depth) c.in-Some.ensures c.in-Some-from_text.ensures
