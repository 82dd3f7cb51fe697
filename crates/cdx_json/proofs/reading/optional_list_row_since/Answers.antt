use Rattle.cdx_json.specs.SeenOf.{seen_of}
use Rattle.cdx_models.specs.Trees.{present, list_tree}
use Rattle.cdx_schema.specs.Kinds.{a_list, optional}
use Rattle.cdx_schema.specs.JsonReading.{seen}
use Rattle.cdx_schema.specs.Depths.{depth_of}
use Rattle.cdx_json.specs.ByRows.{member_of}
use Rattle.cdx_json.proofs.Rows.{late_gives, late_absent}
use Rattle.cdx_json.proofs.reading.optional_list_row_since.Goals as goal

pub returns-then-is_known_to : goal.returns-then-is_known_to
returns-then-is_known_to g c = λ l h. late_gives (present (list_tree g.T.HasTree.tree)) c.optional_list_row.result c.args.since c.args.context.version c.is_known_to.result (member_of (seen (seen_of c.args.map.now.members.items)) c.args.name.now optional (a_list l) c.args.context.version (depth_of c.args.context.depth)) c.is_known_to.ensures c.if-is_known_to.true (c.optional_list_row.ensures l h)

pub returns-else-is_known_to : goal.returns-else-is_known_to
returns-else-is_known_to g c = λ l h. late_absent c.args.since c.args.context.version c.is_known_to.result (member_of (seen (seen_of c.args.map.now.members.items)) c.args.name.now optional (a_list l) c.args.context.version (depth_of c.args.context.depth)) c.is_known_to.ensures c.if-is_known_to.false
