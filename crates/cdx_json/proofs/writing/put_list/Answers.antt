use Rattle.cdx_json.specs.Spellings.{spelling_data, spelling_members}
use Rattle.cdx_json.proofs.Spelled.{list_left_out, list_put}
use Rattle.cdx_json.proofs.writing.put_list.Goals as goal

pub returns-then-len-eq0 : goal.returns-then-len-eq0
returns-then-len-eq0 g c = λ l h. list_left_out c.args.name.now g.T.HasTree.tree l c.args.target.version c.args.held.now (spelling_members c.args.map.now.items) c.len.result c.len.ensures c.if-len-eq0.true

pub returns : goal.returns
returns g c =
    λ l h. list_put c.put.result c.args.name.now g.T.HasTree.tree l c.args.target.version c.args.held.now c.len.result (spelling_data c.in_ok-list_spelling.field-0) (spelling_members c.args.map.now.items) (spelling_members c.put.new.members.items) c.len.ensures c.if-len-eq0.false (c.in_ok-list_spelling.ensures l h) c.put.ensures
