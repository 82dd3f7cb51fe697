use Rattle.std.proofs.Common.{◌≡◌, ◌++◌}
use Rattle.cdx_models.specs.Trees.{each}
use Rattle.cdx_losses.specs.Losses.{items_lost}
use Rattle.cdx_losses.specs.Told.{all_told}
use Rattle.cdx_losses.specs.Walks.{below}
use Rattle.cdx_losses.proofs.Walks.{Remains}
use Rattle.cdx_losses.proofs.losing.lose_items.Given as goal

-- the walk stands where it began, and what was taken and what is still to be taken are the whole
abbrev pub invariant-loop-i : goal.invariant-loop-i
invariant-loop-i g l = (l.walk.path.items ≡ l.initial.walk.path.items)
    × Remains g.T.Losing.tree g.T.Losing.kind l.road l.initial.walk.path.items l.items l.i l.walk.losses (all_told l.initial.walk.losses ++ below l.initial.walk.path.items (items_lost l.road.version l.road.trips (each g.T.Losing.tree l.items) g.T.Losing.kind 0))
