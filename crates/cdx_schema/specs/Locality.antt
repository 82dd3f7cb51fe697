-- Where the first fault of a document stands, and that it depends on no event after its place.
use Rattle.std.specs.Prelude.{◌≡◌, ℕ, suc, ◌<◌, List, ◌++◌, length, take, Err}
use Rattle.cdx_events.specs.declared.event.XmlEvent.{XmlEvent}
use Rattle.cdx_events.specs.Nodes.{Node, element, IsBalanced}
use Rattle.cdx_models.specs.declared.bom.SpecVersion.{SpecVersion}
use Rattle.cdx_models.specs.declared.errors.XmlReadError.{XmlReadError}
use Rattle.cdx_models.specs.declared.errors.XmlReadError.TheVariants.{ElementReadError, UnexpectedElementReadError, RequiredDataMissing, RequiredAttributeMissing, InvalidParseError, InvalidNamespaceError, TooDeep, Memory}
use Rattle.cdx_schema.specs.XmlReading.{xml_denotes}

-- Whether an error is a fault of a document. The others are refusals to gather events, an error that is kept for the
-- crate's sake, and want of memory.
abbrev pub IsDocumentFault : XmlReadError → Type 0
IsDocumentFault (UnexpectedElementReadError p around found) = Unit {0}
IsDocumentFault (RequiredDataMissing p around required_field) = Unit {0}
IsDocumentFault (InvalidParseError p around value data_type) = Unit {0}
IsDocumentFault (InvalidNamespaceError expected actual) = Unit {0}
IsDocumentFault (TooDeep p) = Unit {0}
IsDocumentFault (ElementReadError kind p) = ⊥
IsDocumentFault (RequiredAttributeMissing p around attribute) = ⊥
IsDocumentFault (Memory e) = ⊥

-- The place of a document's fault. A namespace is refused at the root's start.
abbrev pub fault_place : XmlReadError → ℕ
fault_place (ElementReadError kind p) = 0
fault_place (UnexpectedElementReadError p around found) = p
fault_place (RequiredDataMissing p around required_field) = p
fault_place (RequiredAttributeMissing p around attribute) = 0
fault_place (InvalidParseError p around value data_type) = p
fault_place (InvalidNamespaceError expected actual) = 1
fault_place (TooDeep p) = p
fault_place (Memory e) = 0

-- The root of a balanced list.
abbrev pub balanced_root : {events : List XmlEvent} → IsBalanced events → Node
balanced_root b = element b.name b.attributes b.namespace b.nodes

-- Every balanced list that begins with these events has this first fault.
abbrev pub IsBlocked : SpecVersion → List XmlEvent → XmlReadError → Type 0
IsBlocked v front f = (rest : List XmlEvent) (b : IsBalanced (front ++ rest)) → xml_denotes (balanced_root b) v ≡ Err f

-- A first fault depends on no event after its place: every balanced list that begins with the events through that place has the same first fault.
abbrev pub IsLocal : Type 0
IsLocal = (events : List XmlEvent) (b : IsBalanced events) (v : SpecVersion) (f : XmlReadError) → xml_denotes (balanced_root b) v ≡ Err f → IsBlocked v (take (suc (fault_place f)) events) f

-- The place of a first fault is the place of one of the document's events.
abbrev pub StandsInside : Type 0
StandsInside = (events : List XmlEvent) (b : IsBalanced events) (v : SpecVersion) (f : XmlReadError) → xml_denotes (balanced_root b) v ≡ Err f → fault_place f < length events

-- What a document is refused with is a fault of a document.
abbrev pub RefusesByFaults : Type 0
RefusesByFaults = (x : Node) (v : SpecVersion) (f : XmlReadError) → xml_denotes x v ≡ Err f → IsDocumentFault f
