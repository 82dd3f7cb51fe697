use Rattle.std.proofs.Common.{ap, ◌∙◌}
use Rattle.cdx_bom.specs.Trees.{bom_tree}
use Rattle.cdx_schema.specs.Kinds.{a_bill}
use Rattle.cdx_losses.specs.Losses.{lost}
use Rattle.cdx_losses.specs.Told.{all_told}
use Rattle.cdx_losses.proofs.Walks.{adds_root}
use Rattle.cdx_losses.proofs.walking.taken_by.Goals as goal

pub returns : goal.returns
returns c =
    ap all_told c.into_losses.ensures ∙ adds_root (lost c.args.road.version c.args.road.trips (bom_tree c.args.bill.now) a_bill) c.new-walk.result c.lose_bill.new.walk c.new-walk.ensures.path c.new-walk.ensures.losses c.in_ok-lose_bill.ensures
