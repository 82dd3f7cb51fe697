use Rattle.cdx_bom.specs.Docs.{hops_of}
use Rattle.cdx_bom.proofs.Carried.{hops_then}
use Rattle.cdx_bom.proofs.roads.road.Goals as goal

pub returns : goal.returns
returns c = λ x is. hops_then c.documents.result c.in_ok-start.start x c.args.version (hops_of c.args.hops.now) (c.in_ok-start.ensures x c.args.version (c.in_ok-bill.ensures x is)) (c.documents.ensures x c.args.version)
