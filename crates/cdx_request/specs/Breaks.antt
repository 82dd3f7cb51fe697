-- Where a list of events breaks.
use Rattle.std.specs.Prelude.{ℕ, suc, List, [], ◌∷◌, if◌then◌else◌, ◌≡◌, None}
use Rattle.cdx_events.specs.declared.name.OwnedName.{OwnedName}
use Rattle.cdx_events.specs.declared.event.XmlEvent.{XmlEvent}
use Rattle.cdx_events.specs.declared.balance.Stage.{Stage}
use Rattle.cdx_events.specs.declared.balance.Stage.TheVariants.{Fresh}
use Rattle.cdx_events.specs.Balance.{advance, is_alive}
use Rattle.cdx_events.specs.Nodes.{IsBroken}
use Rattle.cdx_events.specs.Root.{root_of}

-- how many events go on from a stage with these open names
unfoldable pub going_on : Stage → List OwnedName → List XmlEvent → ℕ
going_on s stack [] = 0
going_on s stack (e ∷ es) = let next = advance s stack e in if is_alive next.0 then suc (going_on next.0 next.1 es) else 0

-- The place of the first event that no balanced list goes on with, or the number of events where there is none
-- (`BreaksLaw`).
abbrev pub broken : List XmlEvent → ℕ
broken events = going_on Fresh [] events

-- A list without a root breaks there, and at no other place.
abbrev pub BreaksLaw : Type 0
BreaksLaw = (events : List XmlEvent)
    → (root_of events ≡ None → IsBroken events (broken events))
    × ((place : ℕ) → IsBroken events place → place ≡ broken events)
