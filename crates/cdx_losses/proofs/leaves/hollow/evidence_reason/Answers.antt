use Rattle.std.proofs.Common.{refl, codes}
use Rattle.cdx_models.specs.Trees.{evidence}
use Rattle.cdx_component_parts.specs.Records.{evidence_tree}
use Rattle.cdx_losses.specs.LeftOut.{evidence_row}
use Rattle.cdx_losses.proofs.Gone.{held_reason, filled_reason}
use Rattle.cdx_schema.specs.Trips.{is_hollow}
use Rattle.cdx_losses.proofs.leaves.hollow.evidence_reason.Goals as goal

pub returns-in-Some : goal.returns-in-Some
returns-in-Some c =
    held_reason evidence_tree c.args.road.version c.args.road.trips evidence_row c.args.held.now c.in-Some.evidence c.unwritten.result c.is_hollow_evidence.result (is_hollow (evidence_tree c.in-Some.evidence)) c.in-Some.is c.unwritten.ensures c.is_hollow_evidence.ensures (filled_reason c.args.road.version c.args.road.trips evidence (codes "evidence") "evidence" (evidence_tree c.in-Some.evidence) refl refl)
