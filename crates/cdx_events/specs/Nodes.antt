-- Elements and texts, the events that they are written as, and which lists of events are one document.
use Rattle.std.specs.Prelude.{◌≡◌, ℕ, ◌+◌, ◌<◌, ◌≤◌, List, [], ◌∷◌, ◌++◌, length, take}
use Rattle.cdx_events.specs.declared.name.OwnedName.{OwnedName}
use Rattle.cdx_events.specs.declared.name.OwnedAttribute.{OwnedAttribute}
use Rattle.cdx_events.specs.declared.name.Namespace.{Namespace}
use Rattle.cdx_events.specs.declared.event.XmlEvent.{XmlEvent}
use Rattle.cdx_events.specs.declared.event.XmlEvent.TheVariants.{StartDocument, EndDocument, StartElement, EndElement, Characters, CData}

-- An element has a name, attributes, a default namespace, and nodes between its tags.
mutual
  pub data Node : Type 0 where
    characters : List ℕ → Node
    cdata : List ℕ → Node
    element : OwnedName → List OwnedAttribute → Namespace → Nodes → Node

  pub data Nodes : Type 0 where
    no_nodes : Nodes
    node : Node → Nodes → Nodes

-- the events of a node, and of nodes one after the other
abbrev mutual
  pub events_of : Node → List XmlEvent
  events_of (characters t) = Characters t ∷ []
  events_of (cdata t) = CData t ∷ []
  events_of (element name attributes namespace nodes) = StartElement name attributes namespace ∷ events_of_all nodes ++ EndElement name ∷ []

  pub events_of_all : Nodes → List XmlEvent
  events_of_all no_nodes = []
  events_of_all (node first rest) = events_of first ++ events_of_all rest

-- the document whose root is this node
abbrev pub document : Node → List XmlEvent
document root = StartDocument ∷ events_of root ++ EndDocument ∷ []

-- A list of events is balanced where it is a document start, the events of one element, and a document end.
pub record IsBalanced (events : List XmlEvent) : Type 0 where
  pub name : OwnedName
  pub attributes : List OwnedAttribute
  pub namespace : Namespace
  pub nodes : Nodes
  pub whole : events ≡ document (element name attributes namespace nodes)

-- A balanced list begins with these events.
pub record GoesOn (front : List XmlEvent) : Type 0 where
  pub rest : List XmlEvent
  pub balanced : IsBalanced (front ++ rest)

-- The least place such that no balanced list begins with the events through it; where there is none and the list
-- isn't balanced, its length.
pub record IsBroken (events : List XmlEvent) (place : ℕ) : Type 0 where
  pub within : place ≤ length events
  pub before : (k : ℕ) → k ≤ place → GoesOn (take k events)
  pub through : place < length events → GoesOn (take (place + 1) events) → ⊥
  pub unbalanced : IsBalanced events → ⊥
