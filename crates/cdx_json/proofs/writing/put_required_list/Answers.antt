use Rattle.cdx_models.specs.Trees.{list_tree}
use Rattle.cdx_schema.specs.Kinds.{a_list}
use Rattle.cdx_json.specs.Spellings.{spelling_data, spelling_members}
use Rattle.cdx_json.proofs.Spelled.{field_put, list_there}
use Rattle.cdx_json.proofs.writing.put_required_list.Goals as goal

pub returns : goal.returns
returns g c = λ l h. field_put c.put.result c.args.name.now (a_list l) (list_tree g.T.HasTree.tree c.args.held.now) c.args.target.version (spelling_data c.in_ok-list_spelling.field-0) (spelling_members c.args.map.now.items) (spelling_members c.put.new.members.items) (list_there g.T.HasTree.tree c.args.held.now l c.args.target.version) (c.in_ok-list_spelling.ensures l h) c.put.ensures
