-- A walk over a bill that adds what a road takes of it.
use Rattle.std.specs.Prelude.{◌≡◌, List, ◌++◌, map}
use Rattle.cdx_models.specs.declared.errors.Step.{Step}
use Rattle.cdx_models.specs.Trees.{Tree}
use Rattle.cdx_schema.specs.Kinds.{Kind}
use Rattle.cdx_ways.specs.Ways.{At}
use Rattle.cdx_losses.specs.declared.loss.Reason.{Reason}
use Rattle.cdx_losses.specs.declared.road.Road.{Road}
use Rattle.cdx_losses.specs.declared.walk.Walk.{Walk}
use Rattle.cdx_losses.specs.Losses.{entry_or, item_reason, lost}
use Rattle.cdx_losses.specs.Told.{all_told}

-- what is taken below a path
abbrev pub below : List Step → List (At Reason) → List (At Reason)
below p xs = map (λ x. (p ++ x.0, x.1)) xs

-- The walk ends where it began, and adds what is taken below that.
abbrev pub AddsLosses : List (At Reason) → Walk → Walk → Type 0
AddsLosses xs before after = (after.path.items ≡ before.path.items) × (all_told after.losses ≡ all_told before.losses ++ below before.path.items xs)

-- what a road takes of a value: it whole, or what stands inside it
abbrev pub value_lost : Road → Tree → Kind → List (At Reason)
value_lost road t k = entry_or (item_reason road.version road.trips k t) (lost road.version road.trips t k)
