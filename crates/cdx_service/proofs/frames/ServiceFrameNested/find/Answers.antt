use Rattle.cdx_service.specs.ReadingParts.{service_part}
use Rattle.cdx_service.proofs.frames.ServiceFrameNested.find.Goals as goal

pub returns-in-Service : goal.returns-in-Service
returns-in-Service c = rw c.in-Service.is (c.find_in_service.ensures (service_part c.in-Service.field-0))
