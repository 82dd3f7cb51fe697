-- What calls do to the events that a source has left or a sink has taken, where these are told.
use Rattle.std.specs.Prelude.{◌≡◌, List, [], ◌∷◌, ◌++◌, Option, Some, None}
use Rattle.cdx_events.specs.declared.event.XmlEvent.{XmlEvent}

-- they stay as they were
abbrev pub Keeps : Option (List XmlEvent) → Option (List XmlEvent) → Type 0
Keeps None new = Unit {0}
Keeps (Some xs) None = ⊥
Keeps (Some xs) (Some ys) = ys ≡ xs

-- these events are gone from the front
abbrev pub Loses : Option (List XmlEvent) → Option (List XmlEvent) → List XmlEvent → Type 0
Loses None new events = Unit {0}
Loses (Some xs) None events = ⊥
Loses (Some xs) (Some ys) events = xs ≡ events ++ ys

-- these events are appended
abbrev pub Gains : Option (List XmlEvent) → Option (List XmlEvent) → List XmlEvent → Type 0
Gains None new events = Unit {0}
Gains (Some xs) None events = ⊥
Gains (Some xs) (Some ys) events = ys ≡ xs ++ events

-- none is left
abbrev pub IsAtEnd : Option (List XmlEvent) → Type 0
IsAtEnd None = Unit {0}
IsAtEnd (Some xs) = xs ≡ []

-- the first event is given and gone, and none is given exactly where none is left
abbrev pub GivesNext : Option (List XmlEvent) → Option (List XmlEvent) → Option XmlEvent → Type 0
GivesNext old new None = IsAtEnd old × Keeps old new
GivesNext old new (Some event) = Loses old new (event ∷ [])
