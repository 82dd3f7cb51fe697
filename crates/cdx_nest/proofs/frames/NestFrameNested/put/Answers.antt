use Rattle.std.proofs.Common.{ap}
use Rattle.cdx_nest.specs.Frames.{among_components, among_services}
use Rattle.cdx_nest.proofs.frames.NestFrameNested.put.Goals as goal

pub put_in_components-requires : goal.put_in_components-requires
put_in_components-requires c = rw c.in-Component.is at c.requires

pub put_in_services-requires : goal.put_in_services-requires
put_in_services-requires c = rw c.in-Service.is at c.requires

pub put_tools_part-requires : goal.put_tools_part-requires
put_tools_part-requires c = rw c.in-Tools.is at c.requires

pub put_metadata_part-requires : goal.put_metadata_part-requires
put_metadata_part-requires c = rw c.in-Metadata.is at c.requires

pub returns-in-Component-clause-sort : goal.returns-in-Component-clause-sort
returns-in-Component-clause-sort c = rw c.in-Component.is (ap among_components c.put_in_components.ensures.sort)

pub returns-in-Component-clause-puts : goal.returns-in-Component-clause-puts
returns-in-Component-clause-puts c = rw c.in-Component.is c.put_in_components.ensures.puts

pub returns-in-Service-clause-sort : goal.returns-in-Service-clause-sort
returns-in-Service-clause-sort c = rw c.in-Service.is (ap among_services c.put_in_services.ensures.sort)

pub returns-in-Service-clause-puts : goal.returns-in-Service-clause-puts
returns-in-Service-clause-puts c = rw c.in-Service.is c.put_in_services.ensures.puts

pub returns-in-Tools-clause-puts : goal.returns-in-Tools-clause-puts
returns-in-Tools-clause-puts c = rw c.in-Tools.is c.put_tools_part.ensures

pub returns-in-Metadata-clause-puts : goal.returns-in-Metadata-clause-puts
returns-in-Metadata-clause-puts c = rw c.in-Metadata.is c.put_metadata_part.ensures
