-- Nothing else is read: a value that is read as events, a document, a hop or a request is one that writes it.
use Rattle.std.specs.Prelude.{◌≡◌, ◌⊎◌, List, [], ◌∷◌, map, codes, Some, Ok}
use Rattle.serde_json.specs.Data.{Data, string, array, object, Items, no_items, item, no_members, put}
use Rattle.serde_json.specs.Find.{get}
use Rattle.serde_json.specs.View.{items_of}
use Rattle.cdx_events.specs.declared.name.OwnedName.{OwnedName}
use Rattle.cdx_events.specs.declared.name.Namespace.{Namespace}
use Rattle.cdx_events.specs.declared.event.XmlEvent.{XmlEvent}
use Rattle.cdx_events.specs.declared.event.XmlEvent.TheVariants.{StartElement}
use Rattle.cdx_models.specs.Versions.{label}
use Rattle.cdx_schema.specs.Trips.{Hop}
use Rattle.cdx_schema.specs.Roads.{Doc}
use Rattle.cdx_request.specs.Parts.{member_count}
use Rattle.cdx_request.specs.EventValues.{with_optional_text, with_name, event_value}
use Rattle.cdx_request.specs.EventReading.{events_in}
use Rattle.cdx_request.specs.Refusals.{only}
use Rattle.cdx_request.specs.Requests.{Sent, sent_value, sent_events, sent_of, doc_in, hop_meant, Asked, asked_of, Request, request_of}
use Rattle.cdx_request.specs.RequestValues.{hop_value, sent, asked}
use Rattle.cdx_request.specs.SameValues.{HoldsTheSame}

-- ---- events

-- the start of an element with an empty list of attributes, which is read and never written
abbrev pub empty_list_value : OwnedName → Namespace → Data
empty_list_value name namespace = object (put (codes "attributes") (array no_items) (with_optional_text (codes "default") namespace.default (with_name (codes "element") name no_members)))

-- The value is the event's, with its members in any order. The start of an element without attributes may have an
-- empty list of them.
abbrev pub WritesEvent : Data → XmlEvent → Type 0
WritesEvent d (StartElement name [] namespace) = HoldsTheSame d (event_value (StartElement name [] namespace)) ⊎ HoldsTheSame d (empty_list_value name namespace)
WritesEvent d e = HoldsTheSame d (event_value e)

-- one item for each, in order
abbrev pub EachWrites : {A : Type 0} → (Data → A → Type 0) → Items → List A → Type 0
EachWrites writes no_items [] = Unit {0}
EachWrites writes (item d ds) (x ∷ xs) = writes d x × EachWrites writes ds xs
EachWrites writes _ _ = ⊥

-- the value is an array of such values, one for each event, in order
abbrev pub WritesEvents : Data → List XmlEvent → Type 0
WritesEvents d events = (ds : Items) × (d ≡ array ds) × EachWrites WritesEvent ds events

-- ---- documents and requests

-- an object of one member: exactly the value under `json`, or the events under `xml`
abbrev pub WritesSent : Data → Sent → Type 0
WritesSent d (sent_value x) = d ≡ only (codes "json") x
WritesSent d (sent_events events) = (v : Data) × (d ≡ only (codes "xml") v) × WritesEvents v events

-- an object of three members: the label of the version, the document, and the hops in order
pub record WritesAsked (d : Data) (a : Asked) : Type 0 where
  pub three : member_count d ≡ 3
  pub from : get (codes "from") d ≡ Some (string (label a.from))
  pub doc : (v : Data) × (get (codes "doc") d ≡ Some v) × WritesSent v a.sent
  pub hops : (v : Data) × (get (codes "hops") d ≡ Some v) × HoldsTheSame v (array (items_of (map hop_value a.hops)))

-- ---- the laws

abbrev pub EventsAlone : Type 0
EventsAlone = (d : Data) (events : List XmlEvent) → events_in d ≡ Some events → WritesEvents d events

abbrev pub SentAlone : Type 0
SentAlone = (d : Data) (s : Sent) → sent_of d ≡ Some s → WritesSent d s

abbrev pub DocsAlone : Type 0
DocsAlone = (d : Data) (x : Doc) → doc_in d ≡ Ok x → WritesSent d (sent x)

abbrev pub HopsAlone : Type 0
HopsAlone = (d : Data) (h : Hop) → hop_meant d ≡ Some h → HoldsTheSame d (hop_value h)

abbrev pub AskedAlone : Type 0
AskedAlone = (d : Data) (a : Asked) → asked_of d ≡ Some a → WritesAsked d a

abbrev pub RequestsAlone : Type 0
RequestsAlone = (d : Data) (r : Request) → request_of d ≡ Ok r → WritesAsked d (asked r)
