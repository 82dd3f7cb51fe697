-- Events of JSON values: the events of a document in a request. Each object has the members that are named, and no other.
use Rattle.std.specs.Prelude.{ℕ, ◌+◌, ◌==◌, List, [], codes, if◌then◌else◌, Option, Some, None, option_map}
use Rattle.std.specs.Str.{bytes_eq}
use Rattle.serde_json.specs.Data.{Data}
use Rattle.serde_json.specs.Find.{get, as_array}
use Rattle.cdx_events.specs.declared.name.OwnedName.{OwnedName}
use Rattle.cdx_events.specs.declared.name.OwnedAttribute.{OwnedAttribute}
use Rattle.cdx_events.specs.declared.event.XmlEvent.{XmlEvent}
use Rattle.cdx_events.specs.declared.event.XmlEvent.TheVariants.{StartDocument, EndDocument, StartElement, EndElement, Characters, CData}
use Rattle.cdx_request.specs.Parts.{◌>>=◌, member_count, has, text_at, how_many, if_text, all_in}

-- A name: its local part under the member given, and perhaps its namespace under `uri` and its prefix, which are texts.
abbrev pub name_at : List ℕ → Data → Option OwnedName
name_at local d = do
  name ← text_at local d
  uri ← if_text (get (codes "uri") d)
  prefix ← if_text (get (codes "prefix") d)
  Some (record { local_name = name; namespace = uri; prefix = prefix })

-- how many members the name has
abbrev pub members_of_name : Data → ℕ
members_of_name d = 1 + how_many (get (codes "uri") d) + how_many (get (codes "prefix") d)

-- ---- attributes

abbrev pub attribute_parts : Data → Option OwnedAttribute
attribute_parts d = do
  name ← name_at (codes "name") d
  value ← text_at (codes "value") d
  Some (record { name = name; value = value })

-- a name and a value
abbrev pub attribute_meant : Data → Option OwnedAttribute
attribute_meant d = if member_count d == members_of_name d + 1 then attribute_parts d else None

-- no attributes, or an array of them, which may be empty
abbrev pub if_attributes : Option Data → Option (List OwnedAttribute)
if_attributes None = Some []
if_attributes (Some d) = as_array d >>= all_in attribute_meant

-- ---- events

abbrev pub mark_of : List ℕ → Option XmlEvent
mark_of s = if bytes_eq s (codes "start") then Some StartDocument else (if bytes_eq s (codes "end") then Some EndDocument else None)

-- the start or the end of the document
abbrev pub mark_event : Data → Option XmlEvent
mark_event d = if member_count d == 1 then text_at (codes "document") d >>= mark_of else None

abbrev pub start_parts : Data → Option XmlEvent
start_parts d = do
  name ← name_at (codes "element") d
  default ← if_text (get (codes "default") d)
  attributes ← if_attributes (get (codes "attributes") d)
  Some (StartElement name attributes (record { default = default }))

-- how many members the start of an element has
abbrev pub members_of_start : Data → ℕ
members_of_start d = members_of_name d + how_many (get (codes "default") d) + how_many (get (codes "attributes") d)

-- the start of an element: a name, and perhaps the default namespace and attributes
abbrev pub start_event : Data → Option XmlEvent
start_event d = if member_count d == members_of_start d then start_parts d else None

abbrev pub end_event : Data → Option XmlEvent
end_event d = if member_count d == members_of_name d then option_map (λ name. EndElement name) (name_at (codes "end") d) else None

-- a text under a member that says what it is
abbrev pub text_event : List ℕ → (List ℕ → XmlEvent) → Data → Option XmlEvent
text_event name event d = if member_count d == 1 then option_map event (text_at name d) else None

-- The event of an object, by the member that names its kind. No object is two events.
abbrev pub event_of : Data → Option XmlEvent
event_of d =
    if has (codes "document") d then mark_event d else
    (if has (codes "element") d then start_event d else
    (if has (codes "end") d then end_event d else
    (if has (codes "text") d then text_event (codes "text") (λ s. Characters s) d else
    (if has (codes "cdata") d then text_event (codes "cdata") (λ s. CData s) d else
    None))))

-- the events of an array
abbrev pub events_in : Data → Option (List XmlEvent)
events_in d = as_array d >>= all_in event_of
