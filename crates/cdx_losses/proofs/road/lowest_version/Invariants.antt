use Rattle.std.proofs.Common.{◌≡◌, drop}
use Rattle.cdx_schema.specs.Trips.{lowest_of}
use Rattle.cdx_bom.specs.Docs.{hops_of}
use Rattle.cdx_losses.proofs.road.lowest_version.Given as goal

-- the lowest version so far, and those to come
abbrev pub invariant-loop-hop : goal.invariant-loop-hop
invariant-loop-hop l = lowest_of l.lowest (hops_of (drop l.hop-index l.hops)) ≡ lowest_of l.fn.first (hops_of l.hops)
