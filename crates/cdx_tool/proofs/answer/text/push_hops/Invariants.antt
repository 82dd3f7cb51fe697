use Rattle.std.proofs.Common.{drop}
use Rattle.cdx_print.specs.Printed.{printed}
use Rattle.cdx_tool.proofs.Underway.{IsUnderway}
use Rattle.cdx_tool.proofs.answer.text.push_hops.Given as goal

abbrev pub invariant-loop-next : goal.invariant-loop-next
invariant-loop-next l = IsUnderway l.fn.start l.hops (drop l.next-index l.rest) (printed l.fn.text) (printed l.text) l.bill l.hop
