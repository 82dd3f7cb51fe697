use Rattle.std.proofs.Common.{[], ◌++◌, refl, codes}
use Rattle.cdx_models.specs.Trees.{present}
use Rattle.cdx_component.specs.Trees.{components_tree}
use Rattle.cdx_service.specs.Trees.{services_tree}
use Rattle.cdx_nest.specs.Trees.{object_tree}
use Rattle.cdx_schema.specs.Kinds.{a_list, a_tools, components, services}
use Rattle.cdx_schema.specs.Table.{of}
use Rattle.cdx_losses.specs.Losses.{lost}
use Rattle.cdx_losses.proofs.Spared.{row_lost}
use Rattle.cdx_losses.proofs.Levels.{object_lost}
use Rattle.cdx_losses.proofs.Walks.{adds_same, adds_both, adds_end, adds_value}
use Rattle.cdx_losses.proofs.Values.{row_written, components_written, services_written}
use Rattle.cdx_losses.proofs.walking.lose_tools_parts.Goals as goal

pub returns : goal.returns
returns c =
    let r1 = row_lost c.args.road.version c.args.road.trips (of (a_list services) "services") (present services_tree c.args.services.now) in
    let r2 = row_lost c.args.road.version c.args.road.trips (of (a_list components) "components") (present components_tree c.args.components.now) in
    let a = c.args.walk.now in
    let w1 = c.lose_row.new.walk in
    let w2 = c.lose_row-2.new.walk in
    adds_same (r1 ++ (r2 ++ [])) (lost c.args.road.version c.args.road.trips (object_tree c.args.services.now c.args.components.now) a_tools) a w2 (object_lost c.args.road.version c.args.road.trips c.args.services.now c.args.components.now)
    (adds_both r1 (r2 ++ []) a w1 w2 (adds_value c.args.road (of (a_list services) "services") (codes "services") (present services_tree c.args.services.now) a w1 refl (row_written services_tree services_written c.args.services.now) refl c.in_ok-lose_row.ensures)
    (adds_end r2 w1 w2 (adds_value c.args.road (of (a_list components) "components") (codes "components") (present components_tree c.args.components.now) w1 w2 refl (row_written components_tree components_written c.args.components.now) refl c.in_ok-lose_row-2.ensures)))
