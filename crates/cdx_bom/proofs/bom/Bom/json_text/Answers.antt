use Rattle.cdx_bom.specs.Trees.{bom_tree}
use Rattle.cdx_bom.proofs.Outputs.{lacks_version}
use Rattle.cdx_bom.proofs.bom.Bom.json_text.Goals as goal

pub returns-then-not-fits : goal.returns-then-not-fits
returns-then-not-fits c = rw c.lacks_version.ensures (lacks_version c.args.version (bom_tree c.args.self.now) c.fits.result c.fits.ensures c.if-not-fits.true)
