use Rattle.cdx_nest.proofs.frames.NestFrameNested.child.Goals as goal

pub child_in_components-requires : goal.child_in_components-requires
child_in_components-requires c = rw c.in-Component.is at c.requires

pub child_in_services-requires : goal.child_in_services-requires
child_in_services-requires c = rw c.in-Service.is at c.requires

pub child_in_tools-requires : goal.child_in_tools-requires
child_in_tools-requires c = rw c.in-Tools.is at c.requires

pub child_in_metadata-requires : goal.child_in_metadata-requires
child_in_metadata-requires c = rw c.in-Metadata.is at c.requires

pub returns-in-Component : goal.returns-in-Component
returns-in-Component c = rw c.in-Component.is c.child_in_components.ensures

pub returns-in-Service : goal.returns-in-Service
returns-in-Service c = rw c.in-Service.is c.child_in_services.ensures

pub returns-in-Tools : goal.returns-in-Tools
returns-in-Tools c = rw c.in-Tools.is c.child_in_tools.ensures

pub returns-in-Metadata : goal.returns-in-Metadata
returns-in-Metadata c = rw c.in-Metadata.is c.child_in_metadata.ensures
