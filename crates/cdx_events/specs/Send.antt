-- What sending puts into a sink.
use Rattle.std.specs.Prelude.{◌≡◌, ℕ, ◌<◌, List, length, take, Option, Result, Ok, Err}
use Rattle.cdx_events.specs.declared.event.XmlEvent.{XmlEvent}
use Rattle.cdx_events.specs.declared.sending.SendError.{SendError}
use Rattle.cdx_events.specs.Causes.{Rose}
use Rattle.cdx_events.specs.Told.{Gains}

-- All events went out in order and nothing failed, or a put failed, and those before it went out.
abbrev pub Sends : List XmlEvent → Option (List XmlEvent) → Option (List XmlEvent) → ℕ → ℕ → Result (Unit {0}) SendError → Type 0
Sends events old new before now (Ok done) = Gains old new events × (now ≡ before)
Sends events old new before now (Err error) = Gains old new (take error.put events) × (error.put < length events) × Rose before now
