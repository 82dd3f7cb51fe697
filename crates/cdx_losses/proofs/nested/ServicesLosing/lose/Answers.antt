use Rattle.std.proofs.Common.{refl}
use Rattle.cdx_service.specs.Trees.{services_tree}
use Rattle.cdx_schema.specs.Kinds.{a_list, services}
use Rattle.cdx_losses.specs.Losses.{lost}
use Rattle.cdx_losses.specs.Walks.{value_lost}
use Rattle.cdx_losses.proofs.Walks.{ok_same}
use Rattle.cdx_losses.proofs.Values.{value_inside, services_written}
use Rattle.cdx_losses.proofs.nested.ServicesLosing.lose.Goals as goal

pub returns : goal.returns
returns c =
    ok_same c.lose_services.result (lost c.args.road.version c.args.road.trips (services_tree c.args.self.now) (a_list services)) (value_lost c.args.road (services_tree c.args.self.now) (a_list services)) c.args.walk.now c.lose_services.new.walk (value_inside c.args.road (services_tree c.args.self.now) (a_list services) refl (services_written c.args.self.now)) c.lose_services.ensures
