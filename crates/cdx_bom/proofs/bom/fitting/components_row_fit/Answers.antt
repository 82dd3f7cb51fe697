use Rattle.std.proofs.Common.{sym}
use Rattle.cdx_schema.specs.Kinds.{components, a_list}
use Rattle.cdx_nest.specs.Nested.{components_tree}
use Rattle.cdx_bom.proofs.Fitting.{nothing_fits}
use Rattle.cdx_bom.proofs.bom.fitting.components_row_fit.Goals as goal

pub returns-in-None : goal.returns-in-None
returns-in-None c = rw c.in-None.is (sym (nothing_fits components_tree c.args.version (a_list components)))
