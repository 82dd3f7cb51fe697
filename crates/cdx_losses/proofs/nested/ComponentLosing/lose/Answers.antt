use Rattle.std.proofs.Common.{refl}
use Rattle.cdx_models.specs.Trees.{component}
use Rattle.cdx_component.specs.Trees.{component_tree}
use Rattle.cdx_schema.specs.Kinds.{a_record}
use Rattle.cdx_losses.specs.Losses.{lost}
use Rattle.cdx_losses.specs.Walks.{value_lost}
use Rattle.cdx_losses.proofs.Walks.{ok_same}
use Rattle.cdx_losses.proofs.Values.{value_inside}
use Rattle.cdx_losses.proofs.nested.ComponentLosing.lose.Goals as goal
use Rattle.cdx_component.proofs.Written.{component_counts}

pub returns : goal.returns
returns c =
    ok_same c.lose_component.result (lost c.args.road.version c.args.road.trips (component_tree c.args.self.now) (a_record component)) (value_lost c.args.road (component_tree c.args.self.now) (a_record component)) c.args.walk.now c.lose_component.new.walk (value_inside c.args.road (component_tree c.args.self.now) (a_record component) refl (component_counts c.args.self.now)) c.lose_component.ensures
