use Rattle.cdx_schema.specs.Kinds.{a_bill}
use Rattle.cdx_schema.specs.Keeping.{fits}
use Rattle.cdx_bom.specs.Trees.{bom_tree}
use Rattle.cdx_bom.proofs.Fitting.{bill_fits}
use Rattle.cdx_bom.proofs.Nested.{then_both, else_neither}
use Rattle.cdx_bom.proofs.bom.Bom.fits.Goals as goal

pub returns-then-metadata_row_fits : goal.returns-then-metadata_row_fits
returns-then-metadata_row_fits c =
    then_both c.metadata_row_fits.result c.components_row_fit.result _ _ (fits c.args.version (bom_tree c.args.self.now) a_bill) (bill_fits c.args.version c.args.self.now) c.metadata_row_fits.ensures c.if-metadata_row_fits.true c.components_row_fit.ensures

pub returns-else-metadata_row_fits : goal.returns-else-metadata_row_fits
returns-else-metadata_row_fits c = else_neither c.metadata_row_fits.result _ _ (fits c.args.version (bom_tree c.args.self.now) a_bill) (bill_fits c.args.version c.args.self.now) c.metadata_row_fits.ensures c.if-metadata_row_fits.false
