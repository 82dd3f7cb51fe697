use Rattle.cdx_losses.proofs.Roads.{Counts}
use Rattle.cdx_losses.proofs.road.xml_trips.Given as goal

-- the trips so far
abbrev pub invariant-loop-hop : goal.invariant-loop-hop
invariant-loop-hop l = Counts l.hops l.hop-index l.trips
