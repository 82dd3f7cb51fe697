use Rattle.cdx_models.specs.Trees.{present, list_tree}
use Rattle.cdx_schema.specs.Kinds.{a_list}
use Rattle.cdx_schema.specs.Keeping.{kept}
use Rattle.cdx_json.proofs.Spelled.{late_kept_ok, late_kept_else}
use Rattle.cdx_json.proofs.writing.keep_optional_list_since.Goals as goal

pub returns-then-is_known_to : goal.returns-then-is_known_to
returns-then-is_known_to g c = λ l h. late_kept_ok (present (list_tree g.T.HasTree.tree)) c.keep_optional_list.result c.args.since c.args.keeping.version c.is_known_to.result (kept c.args.keeping.version c.args.keeping.label (present (list_tree g.T.HasTree.tree) c.args.held.now) (a_list l)) c.is_known_to.ensures c.if-is_known_to.true (c.keep_optional_list.ensures l h)

pub returns-else-is_known_to : goal.returns-else-is_known_to
returns-else-is_known_to g c = λ l h. late_kept_else c.args.since c.args.keeping.version c.is_known_to.result (kept c.args.keeping.version c.args.keeping.label (present (list_tree g.T.HasTree.tree) c.args.held.now) (a_list l)) c.is_known_to.ensures c.if-is_known_to.false
