use Rattle.std.proofs.Common.{refl}
use Rattle.serde_json.specs.View.{view}
use Rattle.cdx_schema.specs.Roads.{json}
use Rattle.cdx_tool.proofs.request.read.settle.Goals as goal

pub returns-in-Json : goal.returns-in-Json
returns-in-Json c = (json (view c.in-Json.value), rw c.in-Json.is refl, refl)
