use Rattle.std.proofs.Common.{[], ◌++◌, refl, ◌∙◌, codes}
use Rattle.cdx_models.specs.Trees.{present, issue}
use Rattle.cdx_patch.specs.Records.{source_tree, issue_tree}
use Rattle.cdx_schema.specs.Kinds.{a_record}
use Rattle.cdx_losses.specs.LeftOut.{source_row}
use Rattle.cdx_losses.specs.Walks.{value_lost}
use Rattle.cdx_losses.proofs.Spared.{row_lost}
use Rattle.cdx_losses.proofs.Levels.{source_spared, issue_lost}
use Rattle.cdx_losses.proofs.Walks.{adds_same, adds_end, adds_or}
use Rattle.cdx_losses.proofs.Values.{value_inside, present_nothing}
use Rattle.cdx_losses.proofs.leaves.IssueLosing.lose.Goals as goal

pub returns : goal.returns
returns c =
    let r1 = row_lost c.args.road.version c.args.road.trips source_row (present source_tree c.args.self.now.source) in
    let a = c.args.walk.now in
    let w1 = c.record_member.new.self in
    adds_same (r1 ++ []) (value_lost c.args.road (issue_tree c.args.self.now) (a_record issue)) a w1 (value_inside c.args.road (issue_tree c.args.self.now) (a_record issue) refl refl ∙ issue_lost c.args.road.version c.args.road.trips c.args.self.now)
    (adds_end r1 a w1 (adds_or c.args.road.version c.args.road.trips source_row (codes "source") (present source_tree c.args.self.now.source) c.source_reason.result [] a w1 (present_nothing source_tree source_spared c.args.road.version c.args.road.trips _ c.args.self.now.source) refl c.source_reason.ensures c.in_ok-record_member.ensures))
