use Rattle.cdx_bom.proofs.RoadLaws.{settles}
use Rattle.cdx_bom.proofs.laws.roads_settle.Goals as goal

pub returns : goal.returns
returns c = settles
