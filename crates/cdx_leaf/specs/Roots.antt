-- The root of a document.
use Rattle.std.specs.Prelude.{◌≡◌, List, [], ◌∷◌}
use Rattle.cdx_events.specs.declared.event.XmlEvent.{XmlEvent}
use Rattle.cdx_events.specs.declared.event.XmlEvent.TheVariants.{EndDocument}
use Rattle.cdx_events.specs.declared.name.OwnedName.{OwnedName}
use Rattle.cdx_events.specs.declared.name.OwnedAttribute.{OwnedAttribute}
use Rattle.cdx_events.specs.declared.name.Namespace.{Namespace}
use Rattle.cdx_events.specs.Cursor.{Cursor}
use Rattle.cdx_events.specs.Nodes.{Nodes, element, document}
use Rattle.cdx_leaf.specs.Reading.{Stands}

-- The events are the document of an element of this name, these attributes and this namespace, after whose start the reader stands.
pub record IsRootOf (events : List XmlEvent) (reader : Cursor) (n : OwnedName) (a : List OwnedAttribute) (ns : Namespace) : Type 0 where
  pub nodes : Nodes
  pub whole : events ≡ document (element n a ns nodes)
  pub stands : Stands reader n 1 nodes (EndDocument ∷ [])
