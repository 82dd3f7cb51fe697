use Rattle.std.proofs.Common.{[], sym, ◌∙◌}
use Rattle.cdx_service_data.specs.Records.{service_entry}
use Rattle.cdx_schema.specs.Kinds.{an_entry}
use Rattle.cdx_losses.specs.Walks.{value_lost}
use Rattle.cdx_losses.proofs.Walks.{adds_same, adds_none}
use Rattle.cdx_losses.proofs.Values.{known_flow_value, no_flow_value}
use Rattle.cdx_losses.proofs.leaves.ServiceDataLosing.lose.Goals.{else-is_flow-via-then-is_flow+else-not-is_known_to, else-is_flow-via-else-is_flow}
use Rattle.cdx_losses.proofs.leaves.ServiceDataLosing.lose.Goals as goal

pub returns-else-is_flow : goal.returns-else-is_flow
returns-else-is_flow c = elim c.else-is_flow.branch [
  | else-is_flow-via-then-is_flow+else-not-is_known_to w ↦ adds_same [] (value_lost c.args.road (service_entry c.args.self.now) an_entry) c.args.walk.now c.args.walk.now (known_flow_value c.args.road c.args.self.now (sym c.is_flow.ensures ∙ w.if-is_flow.true) (sym w.is_known_to.ensures ∙ w.if-not-is_known_to.false)) (adds_none c.args.walk.now)
  | else-is_flow-via-else-is_flow w ↦ adds_same [] (value_lost c.args.road (service_entry c.args.self.now) an_entry) c.args.walk.now c.args.walk.now (no_flow_value c.args.road c.args.self.now (sym c.is_flow.ensures ∙ w.if-is_flow.false)) (adds_none c.args.walk.now)
]
