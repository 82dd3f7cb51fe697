use Rattle.std.proofs.Common.{refl}
use Rattle.cdx_component.specs.Trees.{components_tree}
use Rattle.cdx_schema.specs.Kinds.{a_list, components}
use Rattle.cdx_losses.specs.Losses.{lost}
use Rattle.cdx_losses.specs.Walks.{value_lost}
use Rattle.cdx_losses.proofs.Walks.{ok_same}
use Rattle.cdx_losses.proofs.Values.{value_inside, components_written}
use Rattle.cdx_losses.proofs.nested.ComponentsLosing.lose.Goals as goal

pub returns : goal.returns
returns c =
    ok_same c.lose_components.result (lost c.args.road.version c.args.road.trips (components_tree c.args.self.now) (a_list components)) (value_lost c.args.road (components_tree c.args.self.now) (a_list components)) c.args.walk.now c.lose_components.new.walk (value_inside c.args.road (components_tree c.args.self.now) (a_list components) refl (components_written c.args.self.now)) c.lose_components.ensures
