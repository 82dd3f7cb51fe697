use Rattle.std.proofs.Common.{◌≡◌, map, take}
use Rattle.serde_json.specs.View.{view}
use Rattle.cdx_tool.proofs.json_item.items_to_json.Given as goal

-- the values of the items so far
abbrev pub invariant-loop-item : goal.invariant-loop-item
invariant-loop-item g l = map view l.values.items ≡ map g.S.JsonItem.shown (take l.item-index l.items)
