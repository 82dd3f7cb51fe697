use Rattle.std.proofs.Common.{◌≡◌, ◌+◌, length}
use Rattle.std.specs.Vec.Iter.{into_iter_items, into_iter_len}
use Rattle.cdx_push_reader.specs.Gathered.{gathering_version}
use Rattle.cdx_tool.proofs.Gathering.{IsGathering}
use Rattle.cdx_tool.proofs.request.bill.gather_items.Given as goal

-- the events of the items so far were taken, and the others are left
abbrev pub invariant-loop-item : goal.invariant-loop-item
invariant-loop-item l =
    IsGathering l.fn.items.items (into_iter_items l.item-iterator) l.reader l.place
    × (gathering_version l.reader.gathering ≡ gathering_version l.fn.reader.gathering)
    × (into_iter_len l.item-iterator ≡ length (into_iter_items l.item-iterator))
    × (l.place + into_iter_len l.item-iterator ≡ length l.fn.items.items)
