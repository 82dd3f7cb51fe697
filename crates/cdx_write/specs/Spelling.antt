-- What a value is written as in a version: the schema's spelling of what the version keeps.
use Rattle.std.specs.Prelude.{ℕ, List, [], if◌then◌else◌}
use Rattle.cdx_events.specs.declared.event.XmlEvent.{XmlEvent}
use Rattle.cdx_events.specs.Nodes.{events_of, events_of_all}
use Rattle.cdx_models.specs.declared.bom.SpecVersion.{SpecVersion}
use Rattle.cdx_models.specs.Trees.{Tree, is_absent}
use Rattle.cdx_schema.specs.Kinds.{Kind}
use Rattle.cdx_schema.specs.Keeping.{keep}
use Rattle.cdx_schema.specs.XmlSpelling.{nodes_of, spelled, xml_document}

-- the element, under a name
unfoldable pub spelled_events : Tree → SpecVersion → List ℕ → Kind → List XmlEvent
spelled_events t w tag k = events_of (spelled (keep w t k) w tag k)

-- what stands between the element's tags
unfoldable pub inner : Tree → SpecVersion → Kind → List XmlEvent
inner t w k = events_of_all (nodes_of (keep w t k) w k)

-- How a value is written where nothing else names it: under this name, unless its kind has one of its own; without a
-- tag, which whatever stands around it writes; or as a document of its own.
pub data Tag : Type 0 where
  tagged : List ℕ → Tag
  untagged : Tag
  whole : Tag

abbrev pub spelled_as : Tag → Tree → SpecVersion → Kind → List XmlEvent
spelled_as (tagged tag) t w k = spelled_events t w tag k
spelled_as untagged t w k = inner t w k
spelled_as whole t w k = xml_document (keep w t k) w

-- Of what isn't there nothing is written.
abbrev pub spelling : Tag → Tree → SpecVersion → Kind → List XmlEvent
spelling tag t w k = if is_absent t then [] else spelled_as tag t w k
