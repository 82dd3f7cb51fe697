use Rattle.std.proofs.Common.{[], ap, ◌∙◌, codes}
use Rattle.cdx_models.specs.Trees.{license}
use Rattle.cdx_license.specs.Records.{license_tree, choice_tree, expression_tree}
use Rattle.cdx_schema.specs.Kinds.{a_record, a_license_choice}
use Rattle.cdx_schema.specs.Faults.{to_member}
use Rattle.cdx_ways.specs.Ways.{behind_step}
use Rattle.cdx_losses.specs.Losses.{lost}
use Rattle.cdx_losses.specs.Walks.{value_lost}
use Rattle.cdx_losses.proofs.Levels.{expression_spared}
use Rattle.cdx_losses.proofs.Walks.{adds_same, adds_none, adds_behind}
use Rattle.cdx_losses.proofs.Values.{value_nothing, choice_value}
use Rattle.cdx_losses.proofs.leaves.LicenseChoiceLosing.lose.Goals as goal

pub returns-in-Expression : goal.returns-in-Expression
returns-in-Expression c =
    adds_same [] (value_lost c.args.road (choice_tree c.args.self.now) a_license_choice) c.args.walk.now c.args.walk.now (ap (λ z. value_lost c.args.road (choice_tree z) a_license_choice) c.in-Expression.is ∙ value_nothing c.args.road (expression_tree c.in-Expression.field-0) a_license_choice (expression_spared c.in-Expression.field-0)) (adds_none c.args.walk.now)

pub returns-in_ok-lose_license-in-License : goal.returns-in_ok-lose_license-in-License
returns-in_ok-lose_license-in-License c =
    let xs = lost c.args.road.version c.args.road.trips (license_tree c.in-License.license) (a_record license) in
    adds_same (behind_step (to_member (codes "license")) xs) (value_lost c.args.road (choice_tree c.args.self.now) a_license_choice) c.args.walk.now c.leave.new.self (ap (λ z. value_lost c.args.road (choice_tree z) a_license_choice) c.in-License.is ∙ choice_value c.args.road c.in-License.license)
    (adds_behind (to_member (codes "license")) xs c.args.walk.now c.enter_member.new.self c.lose_license.new.walk c.leave.new.self c.depth-depth.result c.in_ok-enter_member-in-License.ensures.path c.enter_member.ensures.losses c.in_ok-lose_license-in-License.ensures c.depth-depth.ensures c.leave.ensures.path c.leave.ensures.losses)
