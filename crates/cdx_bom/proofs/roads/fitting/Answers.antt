use Rattle.std.proofs.Common.{sym, ◌∙◌}
use Rattle.cdx_bom.specs.Docs.{hops_of}
use Rattle.cdx_bom.specs.Trees.{bom_tree}
use Rattle.cdx_bom.proofs.Carried.{missing_then, starts}
use Rattle.cdx_bom.proofs.roads.fitting.Goals as goal

pub returns-then-not-fits_all : goal.returns-then-not-fits_all
returns-then-not-fits_all c = λ x v denoted. missing_then c.version_missing.result x v (hops_of c.args.hops.now) (bom_tree c.args.bill) denoted (sym c.fits_all.ensures ∙ c.if-not-fits_all.true) c.version_missing.ensures

pub returns : goal.returns
returns c = λ x v denoted. starts c.args.bill x v (hops_of c.args.hops.now) denoted (sym c.fits_all.ensures ∙ c.if-not-fits_all.false)
