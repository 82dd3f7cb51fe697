use Rattle.cdx_models.specs.Trees.{list_tree}
use Rattle.cdx_schema.specs.Kinds.{a_list}
use Rattle.cdx_json.specs.Spellings.{spelling_members}
use Rattle.cdx_json.proofs.Spelled.{nothing_put}
use Rattle.cdx_json.proofs.writing.put_optional_list.Goals as goal

pub returns-in-None : goal.returns-in-None
returns-in-None g c = λ l h. rw c.in-None.is (nothing_put c.args.name.now (a_list l) (list_tree g.T.HasTree.tree) c.args.target.version (spelling_members c.args.map.now.items))
