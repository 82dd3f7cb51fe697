use Rattle.cdx_models.specs.Trees.{present, list_tree}
use Rattle.cdx_schema.specs.Kinds.{a_list}
use Rattle.cdx_json.specs.KeptRows.{put_kept}
use Rattle.cdx_json.specs.Spellings.{spelling_members}
use Rattle.cdx_json.proofs.Spelled.{late_put_then, late_put_else}
use Rattle.cdx_json.proofs.writing.put_optional_list_since.Goals as goal

pub returns-then-is_known_to : goal.returns-then-is_known_to
returns-then-is_known_to g c = λ l h. late_put_then c.put_optional_list.result c.args.since c.args.target.version c.is_known_to.result (spelling_members c.args.map.now.items) (put_kept c.args.name.now (a_list l) (present (list_tree g.T.HasTree.tree) c.args.held.now) c.args.target.version (spelling_members c.args.map.now.items)) (spelling_members c.put_optional_list.new.map.items) c.is_known_to.ensures c.if-is_known_to.true (c.put_optional_list.ensures l h)

pub returns-else-is_known_to : goal.returns-else-is_known_to
returns-else-is_known_to g c = λ l h. late_put_else c.args.since c.args.target.version c.is_known_to.result (spelling_members c.args.map.now.items) (put_kept c.args.name.now (a_list l) (present (list_tree g.T.HasTree.tree) c.args.held.now) c.args.target.version (spelling_members c.args.map.now.items)) c.is_known_to.ensures c.if-is_known_to.false
