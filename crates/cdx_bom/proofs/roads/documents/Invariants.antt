use Rattle.std.proofs.Common.{drop}
use Rattle.cdx_bom.proofs.Carried.{IsAlong}
use Rattle.cdx_bom.proofs.roads.documents.Given as goal

abbrev pub invariant-loop-next : goal.invariant-loop-next
invariant-loop-next l = IsAlong l.fn.start l.hops (drop l.next-index l.rest) l.docs l.bill l.hop
