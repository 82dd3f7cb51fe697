use Rattle.std.proofs.Common.{◌≡◌, refl}
use Rattle.cdx_schema.specs.Table.{rule}
use Rattle.cdx_leaf.specs.Rules.{as_rule}
use Rattle.cdx_nest_machine.specs.Forms.{plan_of}
use Rattle.cdx_component.specs.Frames.{frame_kind as component_frame_kind}
use Rattle.cdx_service.specs.Frames.{frame_kind as service_frame_kind}
use Rattle.cdx_nest.proofs.NestFrames.{component_here, service_here}
use Rattle.cdx_nest.proofs.frames.NestFrameNested.rule.Goals as goal

pub returns-in-Component : goal.returns-in-Component
returns-in-Component c = rw c.in-Component.is (component_here (λ k. (plan_of k).rule ≡ as_rule c.rule.result) (component_frame_kind c.in-Component.frame) c.rule.ensures)

pub returns-in-Service : goal.returns-in-Service
returns-in-Service c = rw c.in-Service.is (service_here (λ k. (plan_of k).rule ≡ as_rule c.rule-in-Service.result) (service_frame_kind c.in-Service.frame) c.rule-in-Service.ensures)

pub returns-in-Tools : goal.returns-in-Tools
returns-in-Tools c = rw c.in-Tools.is refl

pub returns-in-Metadata : goal.returns-in-Metadata
unfolding rule
returns-in-Metadata c = rw c.in-Metadata.is refl
