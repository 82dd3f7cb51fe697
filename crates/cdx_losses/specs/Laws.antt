-- The laws of losses, as statements.
use Rattle.std.specs.Prelude.{◌≡◌, List, [], ◌∷◌, Bool, true, not, ◌&&◌, is_some, map, Contains}
use Rattle.std.specs.List.{list_all}
use Rattle.cdx_models.specs.declared.errors.Step.{Step}
use Rattle.cdx_models.specs.Trees.{Tree}
use Rattle.cdx_schema.specs.Kinds.{a_bill}
use Rattle.cdx_schema.specs.Trips.{IsSame, Hop, after_road, last_of}
use Rattle.cdx_schema.specs.Laws.{HasBillShape}
use Rattle.cdx_ways.specs.Ways.{begins, found}
use Rattle.cdx_losses.specs.declared.loss.Reason.{Reason}
use Rattle.cdx_losses.specs.Losses.{taken, struck}

-- Less what a road takes, a bill is the same as after the road.
abbrev pub StrikesRoads : Type 0
StrikesRoads = (b : Tree) (h : Hop) (hs : List Hop) → HasBillShape b
    → IsSame (struck b (taken b (h ∷ hs)) (last_of h.version hs)) (after_road b h hs)

-- Each entry's path leads to something that the bill holds.
abbrev pub LeadsToLosses : Type 0
LeadsToLosses = (b : Tree) (hops : List Hop) (p : List Step) (why : Reason) → Contains (taken b hops) (p, why) → is_some (found b a_bill p) ≡ true

-- None of the paths begins with another.
abbrev pub are_apart : List (List Step) → Bool
are_apart [] = true
are_apart (p ∷ ps) = list_all (λ q. not (begins p q) && not (begins q p)) ps && are_apart ps

abbrev pub ListsApart : Type 0
ListsApart = (b : Tree) (hops : List Hop) → HasBillShape b → are_apart (map (λ x. x.0) (taken b hops)) ≡ true
