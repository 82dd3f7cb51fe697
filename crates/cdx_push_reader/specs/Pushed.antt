-- What a reader of documents keeps of the events that it was fed.
use Rattle.std.specs.Prelude.{◌≡◌, ◌⊎◌, List, [], ◌∷◌, length, Option, Some, None, Result, Ok, Err}
use Rattle.std.specs.declared.alloc.AllocError.{AllocError}
use Rattle.cdx_events.specs.declared.name.OwnedName.{OwnedName}
use Rattle.cdx_events.specs.declared.name.OwnedAttribute.{OwnedAttribute}
use Rattle.cdx_events.specs.declared.name.Namespace.{Namespace}
use Rattle.cdx_events.specs.declared.event.XmlEvent.{XmlEvent}
use Rattle.cdx_events.specs.declared.event.XmlEvent.TheVariants.{StartDocument, StartElement}
use Rattle.cdx_events.specs.Balance as balances
use Rattle.cdx_events.specs.Balance.{OpenElement}
use Rattle.cdx_events.specs.Nodes.{events_of, document}
use Rattle.cdx_events.specs.Root.{node_of}
use Rattle.cdx_models.specs.declared.bom.SpecVersion.{SpecVersion}
use Rattle.cdx_models.specs.declared.errors.XmlReadError.{XmlReadError}
use Rattle.cdx_models.specs.declared.errors.XmlReadError.TheVariants.{Memory}
use Rattle.cdx_models.specs.Trees.{bill, Tree}
use Rattle.cdx_schema.specs.Depth.{top}
use Rattle.cdx_schema.specs.Kinds.{a_record}
use Rattle.cdx_schema.specs.XmlReading.{xml_denotes}
use Rattle.cdx_schema.specs.Soon.{IsSoon}
use Rattle.cdx_schema.specs.Early.{IsEarly}
use Rattle.cdx_machine.specs.Machines.{Holding}
use Rattle.cdx_machine.specs.Heard as machines
use Rattle.cdx_push_reader.specs.declared.hearing.ReadingStage.{ReadingStage}
use Rattle.cdx_push_reader.specs.declared.hearing.ReadingStage.TheVariants.{Before, Within, After}
use Rattle.cdx_push_reader.specs.declared.hearing.Hearing.{Hearing}
use Rattle.cdx_push_reader.specs.declared.reader.DocumentReader.{DocumentReader}
use Rattle.cdx_push_reader.specs.Starting.{IsBillStart}

-- A bill's root is open, which the machine reads, and has no fault as yet.
pub record IsRootOpen {M : Type 0} (holds : Holding M) (v : SpecVersion) (m : M) (events : List XmlEvent) : Type 0 where
  pub name : OwnedName
  pub attributes : List OwnedAttribute
  pub namespace : Namespace
  pub inside : List XmlEvent
  pub events_are : events ≡ StartDocument ∷ StartElement name attributes namespace ∷ inside
  pub begins : IsBillStart v name namespace
  pub held : machines.Hears (λ o. holds m v 1 top o) (StartElement name attributes namespace ∷ inside)
  pub quiet : IsSoon v (a_record bill) (StartElement name attributes namespace ∷ inside) 1 top None

-- The root has ended, and the document perhaps. They denote this value.
pub record IsDone {X : Type 0} (tree : X → Tree) (v : SpecVersion) (x : X) (events : List XmlEvent) : Type 0 where
  pub root : OpenElement
  pub denotes : xml_denotes (node_of root) v ≡ Ok (tree x)
  pub events_are : (events ≡ StartDocument ∷ events_of (node_of root)) ⊎ (events ≡ document (node_of root))

abbrev pub StandsAtStage : {M X : Type 0} → Holding M → (X → Tree) → SpecVersion → ReadingStage M X → List XmlEvent → Type 0
StandsAtStage holds tree v Before events = (events ≡ []) ⊎ (events ≡ StartDocument ∷ [])
StandsAtStage holds tree v (Within m) events = IsRootOpen holds v m events
StandsAtStage holds tree v (After x) events = IsDone tree v x events

-- Events without a fault were heard.
abbrev pub Hears : {M X : Type 0} → Holding M → (X → Tree) → Hearing M X → List XmlEvent → Type 0
Hears holds tree h events = balances.heard h.balance events × StandsAtStage holds tree h.version h.stage events

-- what may have become of a reader: memory ran out, there was a fault, or neither
abbrev pub HeardAs : SpecVersion → Type 0 → Option AllocError → Option XmlReadError → List XmlEvent → Type 0
HeardAs v hears (Some e) o events = Unit {0}
HeardAs v hears None (Some f) events = IsEarly v events (Some f)
HeardAs v hears None None events = hears

-- A reader was fed these events.
abbrev pub heard : {M X : Type 0} → Holding M → (X → Tree) → DocumentReader M X → List XmlEvent → Type 0
heard holds tree r events = (r.fed ≡ length events) × HeardAs r.hearing.version (Hears holds tree r.hearing events) r.spent r.refused events

-- One step more: what holds without a fault, or the early fault.
abbrev pub Outcome : {A : Type 0} → (A → Type 0) → SpecVersion → List XmlEvent → Result A XmlReadError → Type 0
Outcome holds v events (Ok x) = holds x
Outcome holds v events (Err (Memory e)) = Unit {0}
Outcome holds v events (Err f) = IsEarly v events (Some f)
