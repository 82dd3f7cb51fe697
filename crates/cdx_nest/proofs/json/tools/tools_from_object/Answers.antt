use Rattle.cdx_json.specs.SeenOf.{seen_of}
use Rattle.cdx_schema.specs.Depths.{depth_of}
use Rattle.cdx_nest.proofs.ToolValues.{object_gives}
use Rattle.cdx_nest.proofs.json.tools.tools_from_object.Goals as goal

pub returns-in-V1_5 : goal.returns-in-V1_5
returns-in-V1_5 c = rw c.in-V1_5.is (object_gives c.tools_from_members.result (seen_of c.args.map.now.members.items) (depth_of c.args.context.depth) (rw c.in-V1_5.is at c.tools_from_members.ensures))
