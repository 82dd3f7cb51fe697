use Rattle.cdx_bom.proofs.Settled.{decides}
use Rattle.cdx_bom.proofs.bom.settled.same.Goals as goal

pub returns : goal.returns
returns c = decides c.args.one.now c.args.other.now c.same_settled.result c.same_settled.ensures
