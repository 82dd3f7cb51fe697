use Rattle.cdx_models.specs.Trees.{list_tree}
use Rattle.cdx_schema.specs.Kinds.{a_list}
use Rattle.cdx_json.proofs.Spelled.{absent_kept}
use Rattle.cdx_json.proofs.writing.keep_optional_list.Goals as goal

pub returns-in-None : goal.returns-in-None
returns-in-None g c = λ l h. rw c.in-None.is (absent_kept (list_tree g.T.HasTree.tree) (a_list l) c.args.keeping.version c.args.keeping.label)
