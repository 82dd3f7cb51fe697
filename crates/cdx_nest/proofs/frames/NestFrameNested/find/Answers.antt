use Rattle.std.proofs.Common.{◌≡◌}
use Rattle.cdx_machine.specs.Several.{found_from}
use Rattle.cdx_nest_machine.specs.Forms.{plan_of}
use Rattle.cdx_component.specs.Frames.{frame_kind as component_frame_kind, frame_fields as component_fields}
use Rattle.cdx_service.specs.Frames.{frame_kind as service_frame_kind, frame_fields as service_fields}
use Rattle.cdx_nest.specs.Reading.{tools_part, metadata_part}
use Rattle.cdx_nest.proofs.NestFrames.{component_here, service_here}
use Rattle.cdx_nest.proofs.frames.NestFrameNested.find.Goals as goal

pub returns-in-Component : goal.returns-in-Component
returns-in-Component c =
    let x = c.in-Component.frame in
    rw c.in-Component.is (component_here (λ k. c.find.result ≡ found_from 0 (plan_of k).children (component_fields x) c.args.version c.args.name.now.local_name) (component_frame_kind x) c.find.ensures)

pub returns-in-Service : goal.returns-in-Service
returns-in-Service c =
    let x = c.in-Service.frame in
    rw c.in-Service.is (service_here (λ k. c.find-in-Service.result ≡ found_from 0 (plan_of k).children (service_fields x) c.args.version c.args.name.now.local_name) (service_frame_kind x) c.find-in-Service.ensures)

pub returns-in-Tools : goal.returns-in-Tools
returns-in-Tools c = rw c.in-Tools.is (c.find_in_tools.ensures (tools_part c.in-Tools.field-0))

pub returns-in-Metadata : goal.returns-in-Metadata
returns-in-Metadata c = rw c.in-Metadata.is (c.find_in_metadata.ensures c.args.version (metadata_part c.in-Metadata.field-0))
