use Rattle.std.proofs.Common.{◌≡◌, map, take}
use Rattle.cdx_json.specs.Spellings.{spelling_data}
use Rattle.cdx_json.proofs.Spelled.{spelled}
use Rattle.cdx_json.proofs.writing.list_spelling.Given as goal

abbrev pub invariant-loop-item : goal.invariant-loop-item
invariant-loop-item g l = map spelling_data l.values.items ≡ map (spelled g.T.HasTree.tree g.T.Kinded.kind l.version) (take l.item-index l.item-items)
