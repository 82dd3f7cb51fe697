-- What the readers of bills answer to events.
use Rattle.std.specs.Prelude.{◌≡◌, ℕ, List, Option, Result}
use Rattle.cdx_events.specs.declared.event.XmlEvent.{XmlEvent}
use Rattle.cdx_events.specs.Nodes.{Node, document}
use Rattle.cdx_models.specs.declared.bom.SpecVersion.{SpecVersion}
use Rattle.cdx_models.specs.declared.errors.XmlReadError.{XmlReadError}
use Rattle.cdx_schema.specs.XmlReading.{xml_denotes}
use Rattle.cdx_leaf.specs.Fault.{Denotes}
use Rattle.cdx_push_reader.specs.Sources as sources
use Rattle.cdx_bom.specs.declared.bom.Bom.{Bom}
use Rattle.cdx_bom.specs.Trees.{bom_tree}

-- The answer is the bill that the events denote, or their first fault.
abbrev pub ReadsBill : List XmlEvent → SpecVersion → Result Bom XmlReadError → Type 0
ReadsBill events v result = (root : Node) → events ≡ document root → Denotes bom_tree (xml_denotes root v) result

-- The events of a source are gathered, and then read.
abbrev pub ReadsBillFrom : ℕ → Option (List XmlEvent) → Option (List XmlEvent) → ℕ → ℕ → SpecVersion → Result Bom XmlReadError → Type 0
ReadsBillFrom budget old new before now v result = sources.ReadsSource bom_tree budget old new before now v result
