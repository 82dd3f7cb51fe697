-- What is read of a bill's document without its empty texts.
use Rattle.std.specs.Prelude.{◌≡◌, List, true, false, Some, Result}
use Rattle.cdx_events.specs.declared.event.XmlEvent.{XmlEvent}
use Rattle.cdx_events.specs.EmptyTexts.{without_empty, lean}
use Rattle.cdx_models.specs.declared.bom.SpecVersion.{SpecVersion}
use Rattle.cdx_models.specs.declared.errors.XmlReadError.{XmlReadError}
use Rattle.cdx_models.specs.Trees.{Tree}
use Rattle.cdx_schema.specs.Kinds.{a_bill}
use Rattle.cdx_schema.specs.Keeping.{keep}
use Rattle.cdx_schema.specs.Laws.{HasBillShape, IsShallow, Fits}
use Rattle.cdx_schema.specs.XmlSpelling.{root}
use Rattle.cdx_schema.specs.XmlReading.{xml_denotes}
use Rattle.cdx_schema.specs.Dropped.{hole, has_empty}
use Rattle.cdx_leaf.specs.Fault.{Denotes, Refused}
use Rattle.cdx_bom.specs.declared.bom.Bom.{Bom}
use Rattle.cdx_bom.specs.Trees.{bom_tree}
use Rattle.cdx_bom.specs.BillReading.{ReadsBill}
use Rattle.cdx_bom.specs.BillWriting.{document_in}

-- the document of what a version keeps of a bill, without its empty texts
abbrev pub lean_document : SpecVersion → Tree → List XmlEvent
lean_document w b = without_empty (document_in w b)

-- The answer for that document is the same as for the whole one, where no attached text, license id or license name is empty.
abbrev pub ReadsAsWhole : Type 0
ReadsAsWhole = (b : Tree) (w : SpecVersion) (answer : Result Bom XmlReadError) → HasBillShape b → IsShallow b → Fits w b
    → has_empty (keep w b a_bill) ≡ false
    → ReadsBill (lean_document w b) w answer → Denotes bom_tree (xml_denotes (root (keep w b a_bill) w) w) answer

-- Where one is, the answer is the fault at the end of the first of them, which has no text there.
abbrev pub MissesText : Type 0
MissesText = (b : Tree) (w : SpecVersion) (answer : Result Bom XmlReadError) → HasBillShape b → IsShallow b → Fits w b
    → has_empty (keep w b a_bill) ≡ true
    → ReadsBill (lean_document w b) w answer → (fault : XmlReadError) × (hole (lean (root (keep w b a_bill) w)) w 1 a_bill ≡ Some fault) × Refused answer fault
