use Rattle.std.proofs.Common.{[], ◌++◌, refl, ◌∙◌, codes}
use Rattle.cdx_models.specs.Trees.{present, evidence}
use Rattle.cdx_license.specs.Records.{licenses_tree}
use Rattle.cdx_component_parts.specs.Records.{evidence_tree}
use Rattle.cdx_schema.specs.Kinds.{a_record}
use Rattle.cdx_losses.specs.Walks.{value_lost}
use Rattle.cdx_losses.proofs.Spared.{row_lost}
use Rattle.cdx_losses.proofs.Levels.{licenses_row, evidence_lost}
use Rattle.cdx_losses.proofs.Walks.{adds_same, adds_end, adds_value}
use Rattle.cdx_losses.proofs.Values.{row_written, value_inside}
use Rattle.cdx_losses.proofs.leaves.ComponentEvidenceLosing.lose.Goals as goal

pub returns : goal.returns
returns c =
    let r1 = row_lost c.args.road.version c.args.road.trips licenses_row (present licenses_tree c.args.self.now.licenses) in
    let a = c.args.walk.now in
    let w1 = c.lose_row.new.walk in
    adds_same (r1 ++ []) (value_lost c.args.road (evidence_tree c.args.self.now) (a_record evidence)) a w1 (value_inside c.args.road (evidence_tree c.args.self.now) (a_record evidence) refl refl ∙ evidence_lost c.args.road.version c.args.road.trips c.args.self.now)
    (adds_end r1 a w1 (adds_value c.args.road licenses_row (codes "licenses") (present licenses_tree c.args.self.now.licenses) a w1 refl (row_written licenses_tree (λ y. refl) c.args.self.now.licenses) refl c.in_ok-lose_row.ensures))
