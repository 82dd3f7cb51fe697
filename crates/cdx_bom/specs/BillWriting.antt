-- What the writers of bills answer, and what they put.
use Rattle.std.specs.Prelude.{◌≡◌, ℕ, ◌<◌, codes, List, length, take, Option, Some, Result, Ok, Err}
use Rattle.cdx_events.specs.Causes.{Rose}
use Rattle.cdx_events.specs.Told.{Gains}
use Rattle.cdx_events.specs.declared.event.XmlEvent.{XmlEvent}
use Rattle.cdx_events.specs.declared.event.XmlEvent.TheVariants.{StartElement}
use Rattle.cdx_events.specs.declared.events.Events.{Events}
use Rattle.cdx_events.specs.Name.{local}
use Rattle.cdx_models.specs.declared.bom.SpecVersion.{SpecVersion}
use Rattle.cdx_models.specs.declared.errors.XmlWriteError.{XmlWriteError}
use Rattle.cdx_models.specs.declared.errors.XmlWriteError.TheVariants as error
use Rattle.cdx_models.specs.Trees.{Tree}
use Rattle.cdx_models.specs.Versions.{namespace}
use Rattle.cdx_schema.specs.Kinds.{a_bill}
use Rattle.cdx_schema.specs.Keeping.{keep}
use Rattle.cdx_schema.specs.Laws.{Fits}
use Rattle.cdx_schema.specs.XmlSpelling.{attributes_of, xml_document}
use Rattle.cdx_bom.specs.Outputs.{LacksVersion}

-- the start of the root of what the version keeps
abbrev pub root_start : Tree → SpecVersion → XmlEvent
root_start b w = StartElement (local (codes "bom")) (attributes_of (keep w b a_bill) w a_bill) (record { default = Some (namespace w) })

-- the document of what a version keeps of a bill
abbrev pub document_in : SpecVersion → Tree → List XmlEvent
document_in w b = xml_document (keep w b a_bill) w

-- The events are the document of what the version keeps, where the bill fits the version. Where it doesn't, a version is
-- missing.
abbrev pub WritesBill : Tree → SpecVersion → Result Events XmlWriteError → Type 0
WritesBill b w (Ok events) = (events.list ≡ document_in w b) × Fits w b
WritesBill b w (Err (error.Memory m)) = Unit {0}
WritesBill b w (Err (error.BomError e)) = LacksVersion w b e
WritesBill b w (Err (error.XmlElementWriteError put)) = ⊥

-- The same put into a sink: all of it, or its first events, where the count rose. Where memory ran out or a version is
-- missing, nothing was put.
abbrev pub PutsBill : Tree → SpecVersion → Option (List XmlEvent) → Option (List XmlEvent) → ℕ → ℕ → Result (Unit {0}) XmlWriteError → Type 0
PutsBill b w old new before now (Ok done) = Gains old new (document_in w b) × (now ≡ before) × Fits w b
PutsBill b w old new before now (Err (error.Memory m)) = (new ≡ old) × (now ≡ before)
PutsBill b w old new before now (Err (error.BomError e)) = (new ≡ old) × (now ≡ before) × LacksVersion w b e
PutsBill b w old new before now (Err (error.XmlElementWriteError put)) = Gains old new (take put (document_in w b)) × (put < length (document_in w b)) × Rose before now × Fits w b
