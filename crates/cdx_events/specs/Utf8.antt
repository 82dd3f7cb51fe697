-- Events whose attribute values and texts are in UTF-8.
use Rattle.std.specs.Prelude.{List, Bool, true, IsTrue}
use Rattle.std.specs.List.{list_all}
use Rattle.std.specs.Str.{is_utf8}
use Rattle.cdx_events.specs.declared.name.OwnedAttribute.{OwnedAttribute}
use Rattle.cdx_events.specs.declared.event.XmlEvent.{XmlEvent}
use Rattle.cdx_events.specs.declared.event.XmlEvent.TheVariants.{StartElement, Characters, CData}

abbrev pub value_in_utf8 : OwnedAttribute → Bool
value_in_utf8 attribute = is_utf8 attribute.value

-- whether the texts of an event are in UTF-8: a text itself, and the values of a start's attributes
abbrev pub in_utf8 : XmlEvent → Bool
in_utf8 (StartElement name attributes namespace) = list_all value_in_utf8 attributes
in_utf8 (Characters text) = is_utf8 text
in_utf8 (CData text) = is_utf8 text
in_utf8 event = true

-- A list of events whose texts are in UTF-8.
pub record EventList : Type 0 where
  pub list : List XmlEvent
  pub utf8 : IsTrue (list_all in_utf8 list)
