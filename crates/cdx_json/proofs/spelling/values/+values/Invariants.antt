use Rattle.std.proofs.Common.{◌≡◌, map, take}
use Rattle.serde_json.specs.Data.{no_members}
use Rattle.serde_json.specs.View.{view, members_view}
use Rattle.cdx_json.specs.Spellings.{spelling_data, spelling_members, set_anew, members_anew}
use Rattle.cdx_json.proofs.spelling.values.+values.Given as goal

abbrev pub invariant-map_of-loop-member : goal.invariant-map_of-loop-member
invariant-map_of-loop-member l = members_view l.map.entries ≡ members_anew (spelling_members (take l.member-index l.member-items)) no_members

abbrev pub invariant-values_of-loop-item : goal.invariant-values_of-loop-item
invariant-values_of-loop-item l = map view l.values.items ≡ map (λ s. set_anew (spelling_data s)) (take l.item-index l.item-items)
