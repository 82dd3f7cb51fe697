use Rattle.std.proofs.Common.{refl, codes}
use Rattle.cdx_models.specs.Trees.{diff}
use Rattle.cdx_patch.specs.Records.{diff_tree}
use Rattle.cdx_losses.specs.LeftOut.{diff_row}
use Rattle.cdx_losses.proofs.Gone.{held_reason, filled_reason}
use Rattle.cdx_schema.specs.Trips.{is_hollow}
use Rattle.cdx_losses.proofs.leaves.hollow.diff_reason.Goals as goal

pub returns-in-Some : goal.returns-in-Some
returns-in-Some c =
    held_reason diff_tree c.args.road.version c.args.road.trips diff_row c.args.held.now c.in-Some.diff c.unwritten.result c.is_hollow_diff.result (is_hollow (diff_tree c.in-Some.diff)) c.in-Some.is c.unwritten.ensures c.is_hollow_diff.ensures (filled_reason c.args.road.version c.args.road.trips diff (codes "diff") "diff" (diff_tree c.in-Some.diff) refl refl)
