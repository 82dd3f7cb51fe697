use Rattle.std.proofs.Common.{sym, ◌∙◌}
use Rattle.cdx_bom.specs.Docs.{hop_of}
use Rattle.cdx_bom.specs.Trees.{bom_tree}
use Rattle.cdx_bom.proofs.Carried.{unfit, taken_of, comes}
use Rattle.cdx_bom.proofs.roads.coming_back.Goals as goal

pub returns-then-not-fits : goal.returns-then-not-fits
returns-then-not-fits c = unfit (bom_tree c.args.bill.now) (hop_of c.args.hop) (sym c.fits.ensures ∙ c.if-not-fits.true)

pub returns-then-not-stands_in : goal.returns-then-not-stands_in
returns-then-not-stands_in c =
    taken_of (bom_tree c.args.bill.now) (hop_of c.args.hop) (bom_tree c.in_ok-kept.kept) c.in_ok-kept.ensures (sym c.fits.ensures ∙ c.if-not-fits.false) (sym c.stands_in.ensures ∙ c.if-not-stands_in.true)

pub returns : goal.returns
returns c =
    comes (bom_tree c.args.bill.now) (hop_of c.args.hop) (bom_tree c.in_ok-kept.kept) c.in_ok-kept.ensures (sym c.fits.ensures ∙ c.if-not-fits.false) (sym c.stands_in.ensures ∙ c.if-not-stands_in.false)
