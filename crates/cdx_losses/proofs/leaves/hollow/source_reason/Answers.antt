use Rattle.std.proofs.Common.{refl, codes}
use Rattle.cdx_models.specs.Trees.{source}
use Rattle.cdx_patch.specs.Records.{source_tree}
use Rattle.cdx_losses.specs.LeftOut.{source_row}
use Rattle.cdx_losses.proofs.Gone.{held_reason, filled_reason}
use Rattle.cdx_schema.specs.Trips.{is_hollow}
use Rattle.cdx_losses.proofs.leaves.hollow.source_reason.Goals as goal

pub returns-in-Some : goal.returns-in-Some
returns-in-Some c =
    held_reason source_tree c.args.road.version c.args.road.trips source_row c.args.held.now c.in-Some.source c.unwritten.result c.is_hollow_source.result (is_hollow (source_tree c.in-Some.source)) c.in-Some.is c.unwritten.ensures c.is_hollow_source.ensures (filled_reason c.args.road.version c.args.road.trips source (codes "source") "source" (source_tree c.in-Some.source) refl refl)
