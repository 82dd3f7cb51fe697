-- One text for each bill.
use Rattle.std.specs.Prelude.{◌≡◌, ◌↔◌, ℕ, List, Some, Ok, Contains}
use Rattle.serde_json.specs.Data.{Data}
use Rattle.serde_json.specs.Read.{read}
use Rattle.serde_json.specs.Written.{compact_text}
use Rattle.cdx_models.specs.declared.bom.SpecVersion.{SpecVersion}
use Rattle.cdx_models.specs.declared.bom.SpecVersion.TheVariants.{V1_5}
use Rattle.cdx_models.specs.Versions.{label}
use Rattle.cdx_models.specs.Trees.{Tree, text, fields, with_field}
use Rattle.cdx_schema.specs.Kinds.{a_bill}
use Rattle.cdx_schema.specs.Keeping.{keep}
use Rattle.cdx_schema.specs.Trips.{settled, IsSame, in_json, Hop}
use Rattle.cdx_schema.specs.JsonReading.{json_denotes}
use Rattle.cdx_schema.specs.JsonSpelling.{jspell}
use Rattle.cdx_schema.specs.Roads.{Doc, denotes, road}
use Rattle.cdx_schema.specs.Laws.{HasBillShape, IsShallow}
use Rattle.cdx_bom.specs.declared.doc.Doc.{Doc as Document}
use Rattle.cdx_bom.specs.declared.doc.Form.TheVariants as form
use Rattle.cdx_bom.specs.declared.doc.Hop.{Hop as Step}
use Rattle.cdx_bom.specs.Docs.{IsDoc, AnswersRoad}

-- A bill with another label, which is its first field.
abbrev pub labelled : SpecVersion → Tree → Tree
labelled v (fields n ts) = fields n (with_field 0 (text (label v)) ts)
labelled v t = t

-- A bill with the label 1.5, and with a tools object without parts for an empty tool list.
abbrev pub plain : Tree → Tree
plain b = settled (labelled V1_5 b) a_bill

-- The compact text of its JSON spelling in 1.5.
abbrev pub canon : Tree → List ℕ
canon b = compact_text (jspell (plain b) V1_5 a_bill)

-- ---- the laws

-- Two bills have one canonical text exactly where they are the same but for the label.
abbrev pub OneText : Type 0
OneText = (b c : Tree) → HasBillShape b → HasBillShape c → IsShallow b → IsShallow c
    → (canon b ≡ canon c ↔ plain b ≡ plain c)
    × (plain b ≡ plain c ↔ IsSame (labelled V1_5 b) (labelled V1_5 c))

-- The text reads back: as the plain bill, which has this text too.
abbrev pub TextReadsBack : Type 0
TextReadsBack = (b : Tree) → HasBillShape b → IsShallow b
    → (x : Data) × (read (canon b) ≡ Some x) × (json_denotes x V1_5 ≡ Ok (plain b)) × (canon (plain b) ≡ canon b)

-- What 1.5 keeps of a bill has the bill's text.
abbrev pub KeepsText : Type 0
KeepsText = (b : Tree) → HasBillShape b → canon (keep V1_5 b a_bill) ≡ canon b

-- ---- roads through JSON 1.5 alone

abbrev pub js : Hop
js = record { form = in_json; version = V1_5 }

-- The document denotes in 1.5 a bill that has b's canonical text.
abbrev pub HasTextOf : Tree → Doc → Type 0
HasTextOf b y = (c : Tree) × (denotes y V1_5 ≡ Ok c) × (canon c ≡ canon b)

-- Each document of such a road has the text of the bill that the first one denotes.
abbrev pub RoadsKeepText : Type 0
RoadsKeepText = (b : Tree) (x : Doc) (v : SpecVersion) (hops : List Hop) (docs : List Doc)
    → denotes x v ≡ Ok b → ((h : Hop) → Contains hops h → h ≡ js) → road x v hops ≡ Ok docs
    → (y : Doc) → Contains docs y → HasTextOf b y

-- So it is with the documents that `road` answers.
abbrev pub step : Step
step = record { form = form.Json; version = V1_5 }

abbrev pub AnswersKeepText : Type 0
AnswersKeepText = (b : Tree) (d : Document) (x : Doc) (v : SpecVersion) (hops : List Step) (docs : List Document)
    → IsDoc d x → denotes x v ≡ Ok b → ((h : Step) → Contains hops h → h ≡ step) → AnswersRoad d v hops (Ok docs)
    → (e : Document) → Contains docs e → (y : Doc) × IsDoc e y × HasTextOf b y
