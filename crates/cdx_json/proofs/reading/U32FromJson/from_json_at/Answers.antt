use Rattle.serde_json.specs.View.{view}
use Rattle.cdx_json.proofs.Values.{number_ok, large_err, below_zero_err, no_integer_err}
use Rattle.cdx_schema.specs.Depths.{depth_of}
use Rattle.cdx_json.proofs.reading.U32FromJson.from_json_at.Goals as goal

pub returns-then-held-lt4294967296 : goal.returns-then-held-lt4294967296
returns-then-held-lt4294967296 c = number_ok (view c.args.value.now) c.in-Some.held c.args.context.version (depth_of c.args.context.depth) c.in-Some.ensures c.if-held-lt4294967296.true

pub returns-else-held-lt4294967296 : goal.returns-else-held-lt4294967296
returns-else-held-lt4294967296 c = large_err c.here.result (view c.args.value.now) c.in-Some.held c.args.context.version (depth_of c.args.context.depth) c.in-Some.ensures c.if-held-lt4294967296.false c.here.ensures

pub returns-then-is_i64 : goal.returns-then-is_i64
returns-then-is_i64 c = below_zero_err c.here-then-is_i64.result (view c.args.value.now) c.is_i64.result c.args.context.version (depth_of c.args.context.depth) c.in-None.ensures c.is_i64.ensures c.if-is_i64.true c.here-then-is_i64.ensures

pub returns-else-is_i64 : goal.returns-else-is_i64
returns-else-is_i64 c = no_integer_err c.here-else-is_i64.result (view c.args.value.now) c.is_i64.result c.args.context.version (depth_of c.args.context.depth) c.in-None.ensures c.is_i64.ensures c.if-is_i64.false c.here-else-is_i64.ensures
