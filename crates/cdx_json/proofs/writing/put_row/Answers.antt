use Rattle.cdx_json.specs.Spellings.{spelling_members}
use Rattle.cdx_json.proofs.Spelled.{nothing_put}
use Rattle.cdx_json.proofs.writing.put_row.Goals as goal

pub returns-in-None : goal.returns-in-None
returns-in-None g c = rw c.in-None.is (nothing_put c.args.name.now g.T.Kinded.kind g.T.HasTree.tree c.args.target.version (spelling_members c.args.map.now.items))
