use Rattle.std.proofs.Common.{sym, subst}
use Rattle.cdx_json.specs.SeenOf.{seen_of}
use Rattle.cdx_schema.specs.JsonReading.{seen}
use Rattle.cdx_schema.specs.Depths.{depth_of}
use Rattle.cdx_json.specs.Gives.{Gives}
use Rattle.cdx_nest.specs.Trees.{metadata_tree}
use Rattle.cdx_nest.proofs.Grouped.{metadata_in_groups}
use Rattle.cdx_nest.proofs.json.metadata.MetadataJsonRecord.from_members.Goals as goal

pub returns : goal.returns
returns c = subst (Gives metadata_tree c.metadata_from_members.result) (sym (metadata_in_groups (seen (seen_of c.args.map.now.members.items)) c.args.context.version (depth_of c.args.context.depth))) c.metadata_from_members.ensures
