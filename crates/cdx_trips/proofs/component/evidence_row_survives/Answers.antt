use Rattle.std.proofs.Common.{refl}
use Rattle.cdx_component_parts.specs.Records.{evidence_tree}
use Rattle.cdx_trips.proofs.Records.{filled, unfilled}
use Rattle.cdx_trips.proofs.component.evidence_row_survives.Goals as goal

pub returns-in-None : goal.returns-in-None
returns-in-None c = unfilled evidence_tree c.args.held.now c.in-None.is

pub returns-in-Some : goal.returns-in-Some
returns-in-Some c = filled evidence_tree c.args.held.now c.in-Some.evidence c.is_hollow_evidence.result _ c.in-Some.is c.is_hollow_evidence.ensures refl
