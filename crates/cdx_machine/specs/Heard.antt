-- What a machine has heard, and what it answers.
use Rattle.std.specs.Prelude.{◌≡◌, ℕ, ◌+◌, List, [], ◌∷◌, ◌++◌, length, Option, Some, None, Result, Ok, Err}
use Rattle.cdx_events.specs.declared.name.OwnedName.{OwnedName}
use Rattle.cdx_events.specs.declared.name.OwnedAttribute.{OwnedAttribute}
use Rattle.cdx_events.specs.declared.name.Namespace.{Namespace}
use Rattle.cdx_events.specs.declared.event.XmlEvent.{XmlEvent}
use Rattle.cdx_events.specs.Nodes.{Nodes, element, events_of}
use Rattle.cdx_models.specs.declared.bom.SpecVersion.{SpecVersion}
use Rattle.cdx_models.specs.declared.errors.XmlReadError.{XmlReadError}
use Rattle.cdx_models.specs.declared.errors.XmlReadError.TheVariants.{Memory}
use Rattle.cdx_models.specs.Trees.{Tree}
use Rattle.cdx_schema.specs.Depth.{Depth}
use Rattle.cdx_schema.specs.Kinds.{Kind}
use Rattle.cdx_schema.specs.Locality.{fault_place}
use Rattle.cdx_schema.specs.Soon.{IsElement, BeginsElement, IsSoon}
use Rattle.cdx_schema.specs.XmlReading.{xread}
use Rattle.cdx_machine.specs.Begun.{Begun, so_far}
use Rattle.cdx_machine.specs.Machines.{Holding}

-- These events are those of an element that is kept.
pub record Hears (holds : Begun → Type 0) (events : List XmlEvent) : Type 0 where
  pub o : Begun
  pub held : holds o
  pub events_are : so_far o ≡ events

-- These are the events of an element that denotes this tree.
pub record IsRead (v : SpecVersion) (k : Kind) (p : ℕ) (d : Depth) (events : List XmlEvent) (t : Tree) : Type 0 where
  pub name : OwnedName
  pub attributes : List OwnedAttribute
  pub namespace : Namespace
  pub nodes : Nodes
  pub whole : events ≡ events_of (element name attributes namespace nodes)
  pub reads : xread (element name attributes namespace nodes) v k p d ≡ Ok t

-- A refusal is the soonest fault, which stands at this place. Want of memory is the exception.
abbrev pub RefusesSoon : XmlReadError → ℕ → Option XmlReadError → Type 0
RefusesSoon (Memory m) place soon = Unit {0}
RefusesSoon e place soon = (soon ≡ Some e) × (fault_place e ≡ place)

-- Without a value the element is open still and has no fault as yet; a value is what the whole element denotes.
abbrev pub AnswersBy : {X : Type 0} → (List XmlEvent → Type 0) → (X → Tree) → SpecVersion → Kind → ℕ → Depth → ℕ → List XmlEvent → Option XmlReadError → Result (Option X) XmlReadError → Type 0
AnswersBy hears view v k p d place events soon (Ok None) = (soon ≡ None) × (IsElement events → ⊥) × hears events
AnswersBy hears view v k p d place events soon (Ok (Some x)) = (soon ≡ None) × IsRead v k p d events (view x)
AnswersBy hears view v k p d place events soon (Err e) = RefusesSoon e place soon

-- These events are all there is of an element as yet, the last of which stands at this place.
pub record Answers {X : Type 0} (hears : List XmlEvent → Type 0) (view : X → Tree) (v : SpecVersion) (k : Kind) (p : ℕ) (d : Depth) (place : ℕ) (events : List XmlEvent) (result : Result (Option X) XmlReadError) : Type 0 where
  pub soon : Option XmlReadError
  pub is_soon : IsSoon v k events p d soon
  pub answers : AnswersBy hears view v k p d place events soon result

abbrev pub OpensBy : {M : Type 0} → (M → List XmlEvent → Type 0) → ℕ → List XmlEvent → Option XmlReadError → Result M XmlReadError → Type 0
OpensBy hears place events soon (Ok m) = (soon ≡ None) × hears m events
OpensBy hears place events soon (Err e) = RefusesSoon e place soon

pub record OpensAs {M : Type 0} (hears : M → List XmlEvent → Type 0) (v : SpecVersion) (k : Kind) (p : ℕ) (d : Depth) (events : List XmlEvent) (result : Result M XmlReadError) : Type 0 where
  pub soon : Option XmlReadError
  pub is_soon : IsSoon v k events p d soon
  pub answers : OpensBy hears p events soon result

-- ---- machines that are spent once they refused an event or their element has ended

-- What was heard by a machine of one of several sorts. One that is spent may have heard any events with which an element
-- begins.
abbrev pub heard_by : {M S : Type 0} → Holding M → (M → S) → S → SpecVersion → ℕ → Depth → Option M → List XmlEvent → Type 0
heard_by holds sort_of sort v p d None events = BeginsElement events
heard_by holds sort_of sort v p d (Some m) events = (sort_of m ≡ sort) × Hears (λ o. holds m v p d o) events

-- It is not spent.
abbrev pub IsListening : {M : Type 0} → Option M → Type 0
IsListening None = ⊥
IsListening (Some m) = Unit {0}

-- It is not spent, and the event at this place is the next one of its element, whose start stands at place p.
pub record Listens (listening : Type 0) (heard : List XmlEvent → Type 0) (p place : ℕ) (event : XmlEvent) : Type 0 where
  pub listens : listening
  pub events : List XmlEvent
  pub were_heard : heard events
  pub place_is : place ≡ p + length events
  pub goes_on : BeginsElement (events ++ event ∷ [])
