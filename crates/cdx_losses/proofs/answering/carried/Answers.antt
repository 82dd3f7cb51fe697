use Rattle.cdx_schema.specs.Roads.{denotes}
use Rattle.cdx_bom.specs.Docs.{hops_of}
use Rattle.cdx_bom.specs.Trees.{bom_tree}
use Rattle.cdx_losses.proofs.Reported.{carried_on}
use Rattle.cdx_losses.proofs.answering.carried.Goals as goal

pub returns : goal.returns
returns c = λ x is. carried_on (hops_of c.args.hops.now) (denotes x c.args.from) (bom_tree c.in_ok-bill.bill) c.if_fit.result (c.in_ok-bill.ensures x is) c.if_fit.ensures
