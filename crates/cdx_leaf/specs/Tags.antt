-- What single tags and events are read as.
use Rattle.std.specs.Prelude.{◌≡◌, ℕ, ◌+◌, List, ◌∷◌, Option, Some, None, Result, Ok, Err, if◌then◌else◌}
use Rattle.cdx_events.specs.declared.event.XmlEvent.{XmlEvent}
use Rattle.cdx_events.specs.declared.event.XmlEvent.TheVariants.{EndElement, Characters, CData}
use Rattle.cdx_events.specs.declared.name.Namespace.{Namespace}
use Rattle.cdx_events.specs.Event.{event_kind}
use Rattle.cdx_events.specs.Nodes.{Nodes, no_nodes, node}
use Rattle.cdx_events.specs.Cursor.{Cursor}
use Rattle.cdx_models.specs.declared.bom.SpecVersion.{SpecVersion}
use Rattle.cdx_models.specs.declared.errors.XmlReadError.{XmlReadError}
use Rattle.cdx_models.specs.Trees.{Tree}
use Rattle.cdx_models.specs.Versions.{namespace}
use Rattle.cdx_schema.specs.Faults.{unexpected, namespaced}
use Rattle.cdx_schema.specs.Kinds.{a_boolean}
use Rattle.cdx_schema.specs.Nodes.{places_of}
use Rattle.cdx_schema.specs.Results.{◌>>=◌}
use Rattle.cdx_schema.specs.XmlReading.{simple_text, in_namespace}
use Rattle.cdx_leaf.specs.Numbers.{value_read}
use Rattle.cdx_leaf.specs.Reading.{Reads}

-- no content is no text
abbrev pub text_or_none : Nodes → List ℕ → ℕ → Result (Option (List ℕ)) XmlReadError
text_or_none no_nodes around p = Ok None
text_or_none (node first others) around p = simple_text (node first others) around p >>= λ s. Ok (Some s)

-- The text is looked at once the element has ended.
abbrev pub boolean_in : Nodes → List ℕ → ℕ → Result Tree XmlReadError
boolean_in nodes around p = simple_text nodes around p >>= λ s. value_read a_boolean (p + places_of nodes) around s

-- the text that an event is, in an element of this name
abbrev pub text_in_event : XmlEvent → List ℕ → ℕ → Result (List ℕ) XmlReadError
text_in_event (Characters t) around p = Ok t
text_in_event (CData t) around p = Ok t
text_in_event event around p = Err (unexpected p around (event_kind event))

-- the same, where the element may end
abbrev pub event_text_or_end : XmlEvent → List ℕ → ℕ → Result (Option (List ℕ)) XmlReadError
event_text_or_end (Characters t) around p = Ok (Some t)
event_text_or_end (CData t) around p = Ok (Some t)
event_text_or_end (EndElement n) around p = Ok None
event_text_or_end event around p = Err (unexpected p around (event_kind event))

-- The next event alone is read, and the reader stands right after it.
abbrev pub ReadsNext : {X T : Type 0} → (X → T) → Cursor → Cursor → (ℕ → XmlEvent → Result T XmlReadError) → Result X XmlReadError → Type 0
ReadsNext view old new denoted result =
    (event : XmlEvent) (ahead : List XmlEvent) → old.ahead ≡ event ∷ ahead → Reads view old new (record { place = old.place + 1; ahead = ahead }) (denoted old.place event) result

-- A document of the version has the version's namespace as its default.
abbrev pub namespace_read : SpecVersion → Namespace → Result (Unit {0}) XmlReadError
namespace_read v ns = if in_namespace ns.default (namespace v) then Ok (record {}) else Err (namespaced (namespace v) ns.default)
