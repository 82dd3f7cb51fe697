-- Events as JSON values: the events of a document in an answer.
use Rattle.std.specs.Prelude.{ℕ, List, [], ◌∷◌, map, codes, Option, Some, None}
use Rattle.serde_json.specs.Data.{Data, string, array, object, Members, no_members, member, put}
use Rattle.serde_json.specs.View.{items_of}
use Rattle.cdx_events.specs.declared.name.OwnedName.{OwnedName}
use Rattle.cdx_events.specs.declared.name.OwnedAttribute.{OwnedAttribute}
use Rattle.cdx_events.specs.declared.event.XmlEvent.{XmlEvent}
use Rattle.cdx_events.specs.declared.event.XmlEvent.TheVariants.{StartDocument, EndDocument, StartElement, EndElement, Characters, CData}

abbrev pub with_optional_text : List ℕ → Option (List ℕ) → Members → Members
with_optional_text name None ms = ms
with_optional_text name (Some s) ms = put name (string s) ms

-- A name: its local part under the member given, its namespace under `uri`, and its prefix.
abbrev pub with_name : List ℕ → OwnedName → Members → Members
with_name local n ms = with_optional_text (codes "prefix") n.prefix (with_optional_text (codes "uri") n.namespace (put local (string n.local_name) ms))

abbrev pub attribute_value : OwnedAttribute → Data
attribute_value a = object (with_name (codes "name") a.name (member (codes "value") (string a.value) no_members))

abbrev pub with_attributes : List OwnedAttribute → Members → Members
with_attributes [] ms = ms
with_attributes (a ∷ more) ms = put (codes "attributes") (array (items_of (map attribute_value (a ∷ more)))) ms

abbrev pub only_text : List ℕ → List ℕ → Data
only_text name s = object (member name (string s) no_members)

abbrev pub event_value : XmlEvent → Data
event_value StartDocument = only_text (codes "document") (codes "start")
event_value EndDocument = only_text (codes "document") (codes "end")
event_value (StartElement name attributes namespace) = object (with_attributes attributes (with_optional_text (codes "default") namespace.default (with_name (codes "element") name no_members)))
event_value (EndElement name) = object (with_name (codes "end") name no_members)
event_value (Characters s) = only_text (codes "text") s
event_value (CData s) = only_text (codes "cdata") s

abbrev pub events_value : List XmlEvent → Data
events_value events = array (items_of (map event_value events))
