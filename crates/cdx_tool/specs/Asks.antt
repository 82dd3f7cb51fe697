-- A question about one bill: the document that it stands in, and the version in which that is read.
use Rattle.std.specs.Prelude.{◌≡◌, ◌==◌, ℕ, List, codes, if◌then◌else◌, Option, Some, None, Result, Ok, Err}
use Rattle.serde_json.specs.Data.{Data}
use Rattle.serde_json.specs.Find.{get}
use Rattle.cdx_events.specs.declared.event.XmlEvent.{XmlEvent}
use Rattle.cdx_models.specs.declared.bom.SpecVersion.{SpecVersion}
use Rattle.cdx_models.specs.declared.errors.XmlReadError.{XmlReadError}
use Rattle.cdx_models.specs.declared.errors.XmlReadError.TheVariants.{ElementReadError, Memory}
use Rattle.cdx_models.specs.Trees.{Tree}
use Rattle.cdx_schema.specs.Roads.{Doc, Refusal, denotes}
use Rattle.cdx_request.specs.Parts.{member_count, version_at}
use Rattle.cdx_request.specs.Refusals.{refusal_value}
use Rattle.cdx_request.specs.Requests.{Misread, not_json, shape, unbalanced, Sent, document_in_json, doc_if, doc_in}
use Rattle.cdx_request.specs.Replies.{Reply, reply, reply_to_misread}
use Rattle.cdx_push_reader.specs.Gathered.{Gathered}
use Rattle.cdx_bom.specs.contracts.push.machine.BillMachineRootMachine.TheImpl.{ghosts}
use Rattle.cdx_bom.specs.declared.bom.Bom.{Bom}
use Rattle.cdx_bom.specs.declared.push.gathering.GatheringReader.{GatheringReader}
use Rattle.cdx_bom.specs.declared.doc.RoadError.TheVariants as error
use Rattle.cdx_bom.specs.Docs.{IsDoc, refusal_of}
use Rattle.cdx_bom.specs.Trees.{bom_tree}
use Rattle.cdx_tool.specs.declared.request.RequestError.TheVariants as misreading
use Rattle.cdx_tool.specs.declared.question.Question.{Question}
use Rattle.cdx_tool.specs.declared.question.NoBill.{NoBill}
use Rattle.cdx_tool.specs.declared.question.NoBill.TheVariants as lack

-- ---- the question that a value is

pub record Inquiry : Type 0 where
  pub from : SpecVersion
  pub doc : Doc

abbrev pub inquiring : SpecVersion → Result Doc Misread → Result Inquiry Misread
inquiring from (Ok doc) = Ok (record { from = from; doc = doc })
inquiring from (Err e) = Err e

abbrev pub inquiry_parts : Option SpecVersion → Option Data → Result Inquiry Misread
inquiry_parts None doc = Err shape
inquiry_parts (Some from) None = Err shape
inquiry_parts (Some from) (Some doc) = inquiring from (doc_in doc)

-- the inquiry of its version and of the value of its document, if it has both
abbrev pub inquiry_if : Option (SpecVersion × Data) → Result Inquiry Misread
inquiry_if None = Err shape
inquiry_if (Some parts) = inquiring parts.0 (doc_in parts.1)

-- An object with `from` and `doc`, and no other member. Its shape comes before the balance of its events.
abbrev pub inquiry_of : Data → Result Inquiry Misread
inquiry_of d = if member_count d == 2 then inquiry_parts (version_at (codes "from") d) (get (codes "doc") d) else Err shape

-- ---- the bill that it asks about

-- why there is none
pub data WhyNoBill : Type 0 where
  misread : Misread → WhyNoBill
  bill_refused : Refusal → WhyNoBill

abbrev pub billed : Result Tree Refusal → Result Tree WhyNoBill
billed (Ok b) = Ok b
billed (Err r) = Err (bill_refused r)

abbrev pub bill_of : Result Inquiry Misread → Result Tree WhyNoBill
bill_of (Ok a) = billed (denotes a.doc a.from)
bill_of (Err e) = Err (misread e)

-- The bill that a value asks about. Why it is no question comes before its document's first fault.
abbrev pub bill_in : Data → Result Tree WhyNoBill
bill_in d = bill_of (inquiry_of d)

-- the same of a document as it stands in a question, if it is one
abbrev pub bill_sent : Option Sent → SpecVersion → Result Tree WhyNoBill
bill_sent sent from = bill_of (inquiring from (doc_if sent))

-- The bytes are a question about the bill.
abbrev pub AsksFor : List ℕ → Tree → Type 0
AsksFor bytes b = (d : Data) × (document_in_json bytes ≡ Some d) × (bill_in d ≡ Ok b)

-- ---- what is answered where there is none

abbrev pub reply_to_no_bill : WhyNoBill → Reply
reply_to_no_bill (misread e) = reply_to_misread e
reply_to_no_bill (bill_refused r) = reply 1 (refusal_value r)

-- f is what is answered to a bill
abbrev pub reply_to_bill : (Tree → Data) → Result Tree WhyNoBill → Reply
reply_to_bill f (Ok b) = reply 0 (f b)
reply_to_bill f (Err l) = reply_to_no_bill l

abbrev pub reply_if_read : (Tree → Data) → Option Data → Reply
reply_if_read f None = reply_to_misread not_json
reply_if_read f (Some d) = reply_to_bill f (bill_in d)

-- The reply to the bytes of a question about a bill.
abbrev pub reply_asking : (Tree → Data) → List ℕ → Reply
reply_asking f bytes = reply_if_read f (document_in_json bytes)

-- ---- what the calls give

abbrev pub IsQuestion : Question → Inquiry → Type 0
IsQuestion q a = (q.from ≡ a.from) × IsDoc q.doc a.doc

-- The error is what is owed: a lack. Want of memory alone is free.
abbrev pub IsWhyNoBill : Result Tree WhyNoBill → NoBill → Type 0
IsWhyNoBill owed (lack.Misread (misreading.Memory m)) = Unit {0}
IsWhyNoBill owed (lack.Misread misreading.Shape) = owed ≡ Err (misread shape)
IsWhyNoBill owed (lack.Misread (misreading.Unbalanced place)) = owed ≡ Err (misread (unbalanced place))
IsWhyNoBill owed (lack.Refused (error.Memory m)) = Unit {0}
IsWhyNoBill owed (lack.Refused e) = (r : Refusal) × (refusal_of e ≡ Some r) × (owed ≡ Err (bill_refused r))

-- The answer is what is owed: the bill, or why there is none.
abbrev pub GivesBill : Result Tree WhyNoBill → Result Bom NoBill → Type 0
GivesBill owed (Ok bill) = owed ≡ Ok (bom_tree bill)
GivesBill owed (Err e) = IsWhyNoBill owed e

-- ---- events that are read one after another

-- The reader has taken these events, in their order.
abbrev pub HasTaken : GatheringReader → List XmlEvent → Type 0
HasTaken reader events = Gathered ghosts.holds bom_tree reader.gathering events

-- why a list of events has no bill: where it breaks, or its first fault
abbrev pub no_bill_of : XmlReadError → NoBill
no_bill_of (ElementReadError kind place) = lack.Misread (misreading.Unbalanced place)
no_bill_of (Memory m) = lack.Misread (misreading.Memory m)
no_bill_of fault = lack.Refused (error.Xml fault)
