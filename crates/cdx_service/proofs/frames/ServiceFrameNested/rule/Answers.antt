use Rattle.std.proofs.Common.{refl}
use Rattle.cdx_schema.specs.Table.{rule}
use Rattle.cdx_service.proofs.frames.ServiceFrameNested.rule.Goals as goal

pub returns-in-Service : goal.returns-in-Service
unfolding rule
returns-in-Service c = rw c.in-Service.is refl
