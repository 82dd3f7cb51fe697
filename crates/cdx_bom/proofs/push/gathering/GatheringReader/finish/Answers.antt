use Rattle.cdx_push_reader.specs.Gathered.{gathering_version}
use Rattle.cdx_push_reader.proofs.Gathered.{concluded}
use Rattle.cdx_bom.specs.Trees.{bom_tree}
use Rattle.cdx_bom.proofs.push.gathering.GatheringReader.finish.Goals as goal

pub returns : goal.returns
returns c = λ events gathered count_is. concluded bom_tree (gathering_version c.args.self.gathering) events c.finish.result (c.finish.ensures events gathered count_is)
