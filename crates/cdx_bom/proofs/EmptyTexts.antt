-- Reading a document without its empty texts.
use Rattle.std.proofs.Common.{sym, subst, Result, Ok, Err}
use Rattle.cdx_events.specs.EmptyTexts.{lean}
use Rattle.cdx_models.specs.declared.bom.SpecVersion.{SpecVersion}
use Rattle.cdx_models.specs.declared.errors.XmlReadError.{XmlReadError}
use Rattle.cdx_models.specs.declared.errors.XmlReadError.TheVariants.{ElementReadError, UnexpectedElementReadError, RequiredDataMissing, RequiredAttributeMissing, InvalidParseError, InvalidNamespaceError, TooDeep, Memory}
use Rattle.cdx_models.specs.Trees.{Tree}
use Rattle.cdx_schema.specs.Kinds.{a_bill}
use Rattle.cdx_schema.specs.Keeping.{keep}
use Rattle.cdx_schema.specs.Laws.{HasBillShape, IsShallow, Fits}
use Rattle.cdx_schema.specs.XmlSpelling.{root}
use Rattle.cdx_schema.specs.XmlReading.{xml_denotes}
use Rattle.cdx_schema.proofs.DroppedEmpty.{dropped_texts}
use Rattle.cdx_leaf.specs.Fault.{Denotes, Refused}
use Rattle.cdx_bom.specs.declared.bom.Bom.{Bom}
use Rattle.cdx_bom.specs.Trees.{bom_tree}
use Rattle.cdx_bom.specs.BillReading.{ReadsBill}
use Rattle.cdx_bom.specs.EmptyTexts.{lean_document, ReadsAsWhole, MissesText}

-- what the answer tells of the root without its empty texts
reads_lean : (b : Tree) (w : SpecVersion) (answer : Result Bom XmlReadError) → HasBillShape b → IsShallow b → Fits w b
    → ReadsBill (lean_document w b) w answer → Denotes bom_tree (xml_denotes (lean (root (keep w b a_bill) w)) w) answer
reads_lean b w answer h s f reads = reads (lean (root (keep w b a_bill) w)) (sym (dropped_texts b w h s f).0)

pub reads_as_whole : ReadsAsWhole
reads_as_whole b w answer h s f full reads =
    subst (λ d. Denotes bom_tree d answer) ((dropped_texts b w h s f).1 full) (reads_lean b w answer h s f reads)

-- An answer that is a fault is a refusal with it.
refused : (answer : Result Bom XmlReadError) (fault : XmlReadError) → Denotes bom_tree (Err fault) answer → Refused answer fault
refused (Ok bill) fault d = absurd cc
refused (Err (Memory m)) fault d = tt
refused (Err (ElementReadError kind p)) fault d = cc
refused (Err (UnexpectedElementReadError p element found)) fault d = cc
refused (Err (RequiredDataMissing p element field)) fault d = cc
refused (Err (RequiredAttributeMissing p element attribute)) fault d = cc
refused (Err (InvalidParseError p element value kind)) fault d = cc
refused (Err (InvalidNamespaceError expected actual)) fault d = cc
refused (Err (TooDeep p)) fault d = cc

pub misses_text : MissesText
misses_text b w answer h s f empty reads =
    let gap = (dropped_texts b w h s f).2 empty in
    (gap.0, gap.1, refused answer gap.0 (subst (λ d. Denotes bom_tree d answer) gap.2 (reads_lean b w answer h s f reads)))
