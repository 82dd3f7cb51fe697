use Rattle.std.proofs.Common.{ap, refl}
use Rattle.cdx_push.specs.Leaf.{value_kind, value_tree}
use Rattle.cdx_component.specs.Frames.{frame_kind as component_frame_kind, frame_fields as component_fields}
use Rattle.cdx_service.specs.Frames.{frame_kind as service_frame_kind, frame_fields as service_fields}
use Rattle.cdx_nest.specs.Frames.{among_components, among_services}
use Rattle.cdx_nest.proofs.NestFrames.{component_leaf, component_puts, service_leaf, service_puts}
use Rattle.cdx_nest.proofs.frames.NestFrameNested.put_leaf.Goals as goal

pub put_leaf-requires : goal.put_leaf-requires
put_leaf-requires c = component_leaf (component_frame_kind c.in-Component.frame) c.args.position (value_kind c.args.value) (rw c.in-Component.is at c.requires)

pub put_leaf-requires-in-Service : goal.put_leaf-requires-in-Service
put_leaf-requires-in-Service c = service_leaf (service_frame_kind c.in-Service.frame) c.args.position (value_kind c.args.value) (rw c.in-Service.is at c.requires)

pub put_tool-requires : goal.put_tool-requires
put_tool-requires c = rw c.in-Tools.is at c.requires

pub put_metadata_leaf-requires : goal.put_metadata_leaf-requires
put_metadata_leaf-requires c = rw c.in-Metadata.is at c.requires

pub returns-in-Component-clause-sort : goal.returns-in-Component-clause-sort
returns-in-Component-clause-sort c = rw c.in-Component.is (ap among_components c.put_leaf.ensures.sort)

pub returns-in-Component-clause-puts : goal.returns-in-Component-clause-puts
returns-in-Component-clause-puts c =
    let x = c.in-Component.frame in
    rw c.in-Component.is (component_puts (component_frame_kind x) c.args.position (value_tree c.args.value) (value_tree c.args.value) (component_fields x) (component_fields c.put_leaf.new.self) c.put_leaf.result refl c.put_leaf.ensures.puts)

pub returns-in-Service-clause-sort : goal.returns-in-Service-clause-sort
returns-in-Service-clause-sort c = rw c.in-Service.is (ap among_services c.put_leaf-in-Service.ensures.sort)

pub returns-in-Service-clause-puts : goal.returns-in-Service-clause-puts
returns-in-Service-clause-puts c =
    let x = c.in-Service.frame in
    rw c.in-Service.is (service_puts (service_frame_kind x) c.args.position (value_tree c.args.value) (value_tree c.args.value) (service_fields x) (service_fields c.put_leaf-in-Service.new.self) c.put_leaf-in-Service.result refl c.put_leaf-in-Service.ensures.puts)

pub returns-in-Tools-clause-puts : goal.returns-in-Tools-clause-puts
returns-in-Tools-clause-puts c = rw c.in-Tools.is c.put_tool.ensures

pub returns-in-Metadata-clause-puts : goal.returns-in-Metadata-clause-puts
returns-in-Metadata-clause-puts c = rw c.in-Metadata.is c.put_metadata_leaf.ensures
