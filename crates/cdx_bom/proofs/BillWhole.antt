-- The end of a bill, and what documents are refused with.
use Rattle.std.proofs.Common.{◌≡◌, sym, ap, ℕ, List, Result, Ok, Err}
use Rattle.std.specs.Prelude.{IfErr}
use Rattle.cdx_models.specs.declared.bom.SpecVersion.{SpecVersion}
use Rattle.cdx_models.specs.declared.errors.XmlReadError.{XmlReadError}
use Rattle.cdx_models.specs.declared.errors.XmlReadError.TheVariants.{ElementReadError, UnexpectedElementReadError, RequiredDataMissing, RequiredAttributeMissing, InvalidParseError, InvalidNamespaceError, TooDeep, Memory}
use Rattle.cdx_models.specs.Trees.{bill, fields}
use Rattle.cdx_schema.specs.Table.{rows}
use Rattle.cdx_schema.specs.XmlReading.{ended}
use Rattle.cdx_machine.specs.Records.{record_end}
use Rattle.cdx_push_reader.specs.Documents as documents
use Rattle.cdx_bom.specs.declared.bom.Bom.{Bom}
use Rattle.cdx_bom.specs.declared.xml.reading.part.BillPart.{BillPart}
use Rattle.cdx_bom.specs.Trees.{bom_tree}
use Rattle.cdx_bom.specs.Reading.{bill_slots}
use Rattle.cdx_push_reader.specs.Documents.{IsRefusal}

-- Nothing is missing at a bill's end.
pub whole_end : (part : BillPart) (b : Bom) → bom_tree b ≡ fields bill (bill_slots part) → (el : List ℕ) (v : SpecVersion) (q : ℕ) → record_end bill el v q (bill_slots part) ≡ Ok (bom_tree b)
unfolding rows ended
whole_end part b tree el v q = ap (λ t. Ok t) (sym tree)

-- What the reader of documents refuses with.
pub refused : (result : Result Bom XmlReadError) → IfErr result documents.IsRefusal → IfErr result IsRefusal
refused (Ok b) h = tt
refused (Err (Memory m)) h = tt
refused (Err (UnexpectedElementReadError p around found)) h = h
refused (Err (RequiredDataMissing p around missed)) h = h
refused (Err (InvalidParseError p around value type)) h = h
refused (Err (InvalidNamespaceError expected actual)) h = h
refused (Err (TooDeep p)) h = h
refused (Err (ElementReadError kind p)) h = h
refused (Err (RequiredAttributeMissing p around missed)) h = h
