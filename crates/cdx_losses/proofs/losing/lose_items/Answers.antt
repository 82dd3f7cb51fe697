use Rattle.std.proofs.Common.{◌++◌, refl, arith}
use Rattle.cdx_models.specs.Trees.{each}
use Rattle.cdx_losses.specs.Losses.{items_lost}
use Rattle.cdx_losses.specs.Walks.{below}
use Rattle.cdx_losses.specs.Told.{all_told}
use Rattle.cdx_losses.proofs.Walks.{round, round_first, rounds_done}
use Rattle.cdx_losses.proofs.losing.lose_items.Goals as goal

pub loop-i-init : goal.loop-i-init
loop-i-init g c = (refl, round_first g.T.Losing.tree g.T.Losing.kind c.args.road c.args.items.now (items_lost c.args.road.version c.args.road.trips (each g.T.Losing.tree c.args.items.now) g.T.Losing.kind 0) c.args.walk.now refl)

pub loop-i-preserved : goal.loop-i-preserved
loop-i-preserved g c =
    round g.T.Losing.tree g.T.Losing.kind c.args.road c.args.items.now c.loop-i.i c.index-items-i.result c.args.walk.now c.loop-i.walk c.enter_item.new.self c.lose.new.walk c.leave.new.self c.depth-depth.result (all_told c.args.walk.now.losses ++ below c.args.walk.now.path.items (items_lost c.args.road.version c.args.road.trips (each g.T.Losing.tree c.args.items.now) g.T.Losing.kind 0)) c.loop-i-test.true c.index-items-i.is c.loop-i.invariant
    c.in_ok-enter_item.ensures.path c.enter_item.ensures.losses c.in_ok-lose.ensures c.depth-depth.ensures c.leave.ensures.path c.leave.ensures.losses

pub returns : goal.returns
returns g c = (c.loop-i.invariant.0, rounds_done g.T.Losing.tree g.T.Losing.kind c.args.road c.args.walk.now.path.items c.args.items.now c.loop-i.i c.loop-i.walk.losses (all_told c.args.walk.now.losses ++ below c.args.walk.now.path.items (items_lost c.args.road.version c.args.road.trips (each g.T.Losing.tree c.args.items.now) g.T.Losing.kind 0)) (omega arith) c.loop-i.invariant.1)
