use Rattle.std.proofs.Common.{[], ◌++◌, refl, ◌∙◌, codes}
use Rattle.cdx_models.specs.Trees.{present, list_tree, patch}
use Rattle.cdx_patch.specs.Records.{diff_tree, issue_tree, patch_tree}
use Rattle.cdx_schema.specs.Kinds.{a_list, a_record, resolved}
use Rattle.cdx_schema.specs.Table.{of}
use Rattle.cdx_losses.specs.LeftOut.{diff_row}
use Rattle.cdx_losses.specs.Walks.{value_lost}
use Rattle.cdx_losses.proofs.Spared.{row_lost}
use Rattle.cdx_losses.proofs.Levels.{diff_spared, patch_lost}
use Rattle.cdx_losses.proofs.Walks.{adds_same, adds_both, adds_end, adds_value, adds_or}
use Rattle.cdx_losses.proofs.Values.{row_written, value_inside, present_nothing}
use Rattle.cdx_losses.proofs.leaves.PatchLosing.lose.Goals as goal

pub returns : goal.returns
returns c =
    let r1 = row_lost c.args.road.version c.args.road.trips diff_row (present diff_tree c.args.self.now.diff) in
    let r2 = row_lost c.args.road.version c.args.road.trips (of (a_list resolved) "resolves") (present (list_tree issue_tree) c.args.self.now.resolves) in
    let a = c.args.walk.now in
    let w1 = c.record_member.new.self in
    let w2 = c.lose_row.new.walk in
    adds_same (r1 ++ (r2 ++ [])) (value_lost c.args.road (patch_tree c.args.self.now) (a_record patch)) a w2 (value_inside c.args.road (patch_tree c.args.self.now) (a_record patch) refl refl ∙ patch_lost c.args.road.version c.args.road.trips c.args.self.now)
    (adds_both r1 (r2 ++ []) a w1 w2 (adds_or c.args.road.version c.args.road.trips diff_row (codes "diff") (present diff_tree c.args.self.now.diff) c.diff_reason.result [] a w1 (present_nothing diff_tree diff_spared c.args.road.version c.args.road.trips _ c.args.self.now.diff) refl c.diff_reason.ensures c.in_ok-record_member.ensures)
    (adds_end r2 w1 w2 (adds_value c.args.road (of (a_list resolved) "resolves") (codes "resolves") (present (list_tree issue_tree) c.args.self.now.resolves) w1 w2 refl (row_written (list_tree issue_tree) (λ y. refl) c.args.self.now.resolves) refl c.in_ok-lose_row.ensures)))
