use Rattle.std.proofs.Common.{◌≡◌, length, drop}
use Rattle.std.specs.Vec.Iter.{into_iter_items, into_iter_len}
use Rattle.serde_json.specs.View.{items_view}
use Rattle.cdx_schema.specs.JsonReading.{float_of_items}
use Rattle.cdx_json.proofs.Loops.{reading_items}
use Rattle.cdx_owned.proofs.ReadTo.{IsReadTo}
use Rattle.cdx_owned.proofs.list.items_from_owned.Given as goal

-- What is left are the items from the one on that is read next, of which none before has a float.
abbrev pub invariant-loop-item : goal.invariant-loop-item
invariant-loop-item g l =
    IsReadTo (reading_items g.T.HasTree.tree g.T.Kinded.kind l.context l.fn.items.items l.fn.items.items l.held l.at) l.fault
    × (float_of_items l.at (items_view (drop l.at l.fn.items.items)) ≡ float_of_items 0 (items_view l.fn.items.items))
    × (into_iter_items l.item-iterator ≡ drop l.at l.fn.items.items)
    × (into_iter_len l.item-iterator ≡ length (into_iter_items l.item-iterator))
