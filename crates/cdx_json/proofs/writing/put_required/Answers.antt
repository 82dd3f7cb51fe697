use Rattle.cdx_json.specs.Spellings.{spelling_data, spelling_members}
use Rattle.cdx_json.proofs.Spelled.{field_put}
use Rattle.cdx_json.proofs.writing.put_required.Goals as goal

pub returns : goal.returns
returns g c = field_put c.put.result c.args.name.now g.T.Kinded.kind (g.T.HasTree.tree c.args.held.now) c.args.target.version (spelling_data c.in_ok-spelling.field-0) (spelling_members c.args.map.now.items) (spelling_members c.put.new.members.items) (g.met.T.Kept.stays c.args.target.version c.args.target.version c.args.held.now) c.in_ok-spelling.ensures c.put.ensures
