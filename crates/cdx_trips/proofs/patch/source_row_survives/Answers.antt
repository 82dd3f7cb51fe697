use Rattle.std.proofs.Common.{refl}
use Rattle.cdx_patch.specs.Records.{source_tree}
use Rattle.cdx_trips.proofs.Records.{filled, unfilled}
use Rattle.cdx_trips.proofs.patch.source_row_survives.Goals as goal

pub returns-in-None : goal.returns-in-None
returns-in-None c = unfilled source_tree c.args.held.now c.in-None.is

pub returns-in-Some : goal.returns-in-Some
returns-in-Some c = filled source_tree c.args.held.now c.in-Some.source c.is_hollow_source.result _ c.in-Some.is c.is_hollow_source.ensures refl
