use Rattle.std.proofs.Common.{refl}
use Rattle.cdx_patch.specs.Records.{diff_tree}
use Rattle.cdx_trips.proofs.Records.{filled, unfilled}
use Rattle.cdx_trips.proofs.patch.diff_row_survives.Goals as goal

pub returns-in-None : goal.returns-in-None
returns-in-None c = unfilled diff_tree c.args.held.now c.in-None.is

pub returns-in-Some : goal.returns-in-Some
returns-in-Some c = filled diff_tree c.args.held.now c.in-Some.diff c.is_hollow_diff.result _ c.in-Some.is c.is_hollow_diff.ensures refl
