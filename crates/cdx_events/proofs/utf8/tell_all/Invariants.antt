use Rattle.std.proofs.Common.{IsTrue, take}
use Rattle.std.specs.List.{list_all}
use Rattle.cdx_events.proofs.utf8.tell_all.Given as goal

abbrev pub invariant-loop-item : goal.invariant-loop-item
invariant-loop-item g l = IsTrue (list_all g.T.InUtf8.in_utf8 (take l.item-index l.fn.items))
