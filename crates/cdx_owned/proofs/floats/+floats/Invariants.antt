use Rattle.std.proofs.Common.{◌≡◌, drop}
use Rattle.serde_json.specs.View.{items_view, members_view}
use Rattle.cdx_schema.specs.JsonReading.{float_of_items, float_of_members}
use Rattle.cdx_owned.proofs.floats.+floats.Given as goal

abbrev pub invariant-refuse_item_floats-loop-i : goal.invariant-refuse_item_floats-loop-i
invariant-refuse_item_floats-loop-i l = float_of_items l.i (items_view (drop l.i l.item-items)) ≡ float_of_items 0 (items_view l.items.items)

abbrev pub invariant-refuse_member_floats-loop-name : goal.invariant-refuse_member_floats-loop-name
invariant-refuse_member_floats-loop-name l = float_of_members (members_view l.name-iterator) ≡ float_of_members (members_view l.map.entries)
