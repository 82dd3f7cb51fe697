use Rattle.std.proofs.Common.{codes}
use Rattle.cdx_json.specs.Spellings.{spelling_members}
use Rattle.cdx_json.proofs.Spelled.{nothing_put}
use Rattle.cdx_schema.specs.Kinds.{components, a_list}
use Rattle.cdx_nest.specs.Nested.{components_tree}
use Rattle.cdx_bom.proofs.json.writing.put_components.Goals as goal

pub returns-in-None : goal.returns-in-None
returns-in-None c = rw c.in-None.is (nothing_put (codes "components") (a_list components) components_tree c.args.target.version (spelling_members c.args.map.now.items))

pub returns-in-Some : goal.returns-in-Some
returns-in-Some c = rw c.in-Some.is c.put_required.ensures
