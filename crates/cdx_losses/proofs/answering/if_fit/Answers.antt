use Rattle.std.proofs.Common.{sym, ◌∙◌}
use Rattle.cdx_bom.specs.Docs.{hops_of}
use Rattle.cdx_bom.specs.Trees.{bom_tree}
use Rattle.cdx_losses.proofs.Reported.{fitted, unfitted}
use Rattle.cdx_losses.proofs.answering.if_fit.Goals as goal

pub returns-then-fits_all : goal.returns-then-fits_all
returns-then-fits_all c = fitted (hops_of c.args.hops.now) (bom_tree c.args.bill) (sym c.fits_all.ensures ∙ c.if-fits_all.true)

pub returns : goal.returns
returns c = unfitted (hops_of c.args.hops.now) (bom_tree c.args.bill) c.version_missing.result (sym c.fits_all.ensures ∙ c.if-fits_all.false) c.version_missing.ensures
