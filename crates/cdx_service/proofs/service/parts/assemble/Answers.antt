use Rattle.cdx_service.specs.Laws.{service_tree-roll}
use Rattle.cdx_service.proofs.service.parts.assemble.Goals as goal

pub returns : goal.returns
returns c = service_tree-roll _
