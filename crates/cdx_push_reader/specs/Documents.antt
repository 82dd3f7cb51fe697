-- What the readers of whole documents answer.
use Rattle.std.specs.Prelude.{◌≡◌, List, Result}
use Rattle.cdx_events.specs.declared.event.XmlEvent.{XmlEvent}
use Rattle.cdx_events.specs.Nodes.{Node, document}
use Rattle.cdx_models.specs.declared.bom.SpecVersion.{SpecVersion}
use Rattle.cdx_models.specs.declared.errors.XmlReadError.{XmlReadError}
use Rattle.cdx_models.specs.declared.errors.XmlReadError.TheVariants.{Memory}
use Rattle.cdx_models.specs.Trees.{Tree}
use Rattle.cdx_schema.specs.Locality.{IsDocumentFault}
use Rattle.cdx_schema.specs.XmlReading.{xml_denotes}
use Rattle.cdx_leaf.specs.Fault.{Denotes}

-- The answer is what the events denote, or their first fault.
abbrev pub ReadsDocument : {X : Type 0} → (X → Tree) → List XmlEvent → SpecVersion → Result X XmlReadError → Type 0
ReadsDocument tree events v result = (root : Node) → events ≡ document root → Denotes tree (xml_denotes root v) result

-- What a document may be refused with: a fault of documents, or want of memory.
abbrev pub IsRefusal : XmlReadError → Type 0
IsRefusal (Memory e) = Unit {0}
IsRefusal e = IsDocumentFault e
