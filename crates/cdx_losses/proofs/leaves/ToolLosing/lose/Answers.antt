use Rattle.std.proofs.Common.{[], ◌++◌, refl, ◌∙◌, codes}
use Rattle.cdx_models.specs.Trees.{present, tool}
use Rattle.cdx_models.specs.Records.{tool_tree, references_tree}
use Rattle.cdx_schema.specs.Kinds.{a_record}
use Rattle.cdx_losses.specs.Walks.{value_lost}
use Rattle.cdx_losses.proofs.Spared.{row_lost}
use Rattle.cdx_losses.proofs.Levels.{references_spared, tool_references_row, tool_lost}
use Rattle.cdx_losses.proofs.Walks.{adds_same, adds_end, adds_unknown}
use Rattle.cdx_losses.proofs.Values.{value_inside}
use Rattle.cdx_losses.proofs.leaves.ToolLosing.lose.Goals as goal

pub returns : goal.returns
returns c =
    let r1 = row_lost c.args.road.version c.args.road.trips tool_references_row (present references_tree c.args.self.now.external_references) in
    let a = c.args.walk.now in
    let w1 = c.record_member.new.self in
    adds_same (r1 ++ []) (value_lost c.args.road (tool_tree c.args.self.now) (a_record tool)) a w1 (value_inside c.args.road (tool_tree c.args.self.now) (a_record tool) refl refl ∙ tool_lost c.args.road.version c.args.road.trips c.args.self.now)
    (adds_end r1 a w1 (adds_unknown references_tree c.args.road.version c.args.road.trips tool_references_row (codes "externalReferences") c.args.self.now.external_references c.unknown-unknown.result a w1 refl references_spared (λ y. refl) refl c.unknown-unknown.ensures c.in_ok-record_member.ensures))
