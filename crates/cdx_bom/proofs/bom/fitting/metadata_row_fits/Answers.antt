use Rattle.std.proofs.Common.{sym}
use Rattle.cdx_models.specs.Trees.{metadata}
use Rattle.cdx_schema.specs.Kinds.{a_record}
use Rattle.cdx_nest.specs.Trees.{metadata_tree}
use Rattle.cdx_bom.proofs.Fitting.{nothing_fits}
use Rattle.cdx_bom.proofs.bom.fitting.metadata_row_fits.Goals as goal

pub returns-in-None : goal.returns-in-None
returns-in-None c = rw c.in-None.is (sym (nothing_fits metadata_tree c.args.version (a_record metadata)))
