-- The laws of bills and roads, as statements.
use Rattle.serde_json.specs.Data.{depth}
use Rattle.serde_json.specs.Written.{has_float}
use Rattle.cdx_models.specs.declared.bom.SpecVersion.TheVariants.{V1_5}
use Rattle.std.specs.Prelude.{◌≡◌, ◌≤◌, ℕ, zero, suc, ◌⊎◌, ◌↔◌, List, [], ◌∷◌, ◌++◌, length, take, true, false, Option, Some, None, Ok, Err}
use Rattle.cdx_models.specs.declared.bom.SpecVersion.{SpecVersion}
use Rattle.cdx_models.specs.Versions.{lowest}
use Rattle.cdx_models.specs.Trees.{Tree}
use Rattle.cdx_schema.specs.Kinds.{Kind, a_bill}
use Rattle.cdx_schema.specs.Depth.{top}
use Rattle.cdx_schema.specs.Membership.{Never, IsOf, HasShape}
use Rattle.cdx_schema.specs.Keeping.{kept, keep, fits, is_shallow}
use Rattle.cdx_schema.specs.Trips.{bare, IsSame, Form, in_json, in_xml, Hop, after_road, last_of, lowest_of}
use Rattle.cdx_schema.specs.Suppliers.{unsupplied}
use Rattle.cdx_schema.specs.JsonReading.{json_denotes}
use Rattle.cdx_schema.specs.JsonSpelling.{jspell}
use Rattle.cdx_schema.specs.XmlReading.{xml_denotes}
use Rattle.cdx_schema.specs.XmlSpelling.{root}
use Rattle.cdx_schema.specs.Roads.{Doc, json, xml, version_missing, denotes, fits_all, road}
use Rattle.serde_json.specs.View.{view}
use Rattle.serde_json.specs.declared.value.Value.{Value}
use Rattle.cdx_events.specs.Nodes.{Node, document}
use Rattle.cdx_events.specs.declared.events.Events.{Events}

-- A bill. Its texts are in UTF-8.
abbrev pub IsBill : Tree → Type 0
IsBill b = IsOf b a_bill

-- A tree with the shape of a bill, whatever its texts are. The laws ask no more.
abbrev pub HasBillShape : Tree → Type 0
HasBillShape b = HasShape b a_bill

-- No component stands inside 32 components, and no service inside 32 services.
abbrev pub IsShallow : Tree → Type 0
IsShallow b = is_shallow b top ≡ true

abbrev pub Fits : SpecVersion → Tree → Type 0
Fits w b = fits w b a_bill ≡ true

-- The JSON spelling of what a version keeps denotes what the version keeps.
abbrev pub ReadsBackJson : Type 0
ReadsBackJson = (b : Tree) (w : SpecVersion) → HasBillShape b → IsShallow b → Fits w b
    → json_denotes (jspell (keep w b a_bill) w a_bill) w ≡ Ok (keep w b a_bill)

-- The XML spelling of what a version keeps denotes the same as that less what a trip takes.
abbrev pub ReadsBackXml : Type 0
ReadsBackXml = (b : Tree) (w : SpecVersion) → HasBillShape b → IsShallow b → Fits w b
    → (c : Tree) × (xml_denotes (root (keep w b a_bill) w) w ≡ Ok c) × IsSame c (bare (keep w b a_bill))

-- What version v keeps of what version w keeps is what the lower of the two keeps, under the label of v.
abbrev pub KeepsTwice : Type 0
KeepsTwice = (b : Tree) (v w : SpecVersion) → HasBillShape b → keep v (keep w b a_bill) a_bill ≡ kept (lowest v w) v b a_bill

-- A bill has the shape of one.
abbrev pub BillsHaveShape : Type 0
BillsHaveShape = (b : Tree) → IsBill b → HasBillShape b

-- What a version keeps of a bill and what a trip leaves of it are bills, and so it is with the shape.
abbrev pub StaysBill : Type 0
StaysBill = (b : Tree) (w : SpecVersion)
    → (IsBill b → IsBill (keep w b a_bill) × IsBill (bare b))
    × (HasBillShape b → HasBillShape (keep w b a_bill) × HasBillShape (bare b))

-- Both fit exactly the versions that the bill fits.
abbrev pub StaysFit : Type 0
StaysFit = (b : Tree) (v w : SpecVersion) → HasBillShape b → (fits v (keep w b a_bill) a_bill ≡ fits v b a_bill) × (fits v (bare b) a_bill ≡ fits v b a_bill)

-- Both are shallow where the bill is.
abbrev pub StaysShallow : Type 0
StaysShallow = (b : Tree) (w : SpecVersion) → IsShallow b → IsShallow (keep w b a_bill) × IsShallow (bare b)

-- It doesn't matter whether a version or a trip takes first.
abbrev pub Commutes : Type 0
Commutes = (b : Tree) (w : SpecVersion) → HasBillShape b → bare (keep w b a_bill) ≡ keep w (bare b) a_bill

-- A version keeps the same of the same, and a trip leaves the same of the same.
abbrev pub SameOfSame : Type 0
SameOfSame = (b c : Tree) (w : SpecVersion) → IsSame b c → IsSame (keep w b a_bill) (keep w c a_bill) × IsSame (bare b) (bare c)

-- The second trip takes the suppliers that have been left without name, url and contact, and a third takes nothing.
abbrev pub TakesTwice : Type 0
TakesTwice = (b : Tree) → HasBillShape b → (bare (bare b) ≡ unsupplied (bare b)) × (bare (bare (bare b)) ≡ bare (bare b))

-- No JSON spelling holds a float.
abbrev pub SpellsNoFloat : Type 0
SpellsNoFloat = (t : Tree) (w : SpecVersion) (k : Kind) → has_float (jspell t w k) ≡ false

-- The JSON spelling of a bill nests no deeper than 104 arrays and objects.
abbrev pub Nests : Type 0
Nests = (b : Tree) (w : SpecVersion) → HasBillShape b → IsShallow b → depth (jspell b w a_bill) ≤ 104

-- What a document denotes has the shape of a bill, and is shallow.
abbrev pub DenotesShapes : Type 0
DenotesShapes = (x : Doc) (v : SpecVersion) (b : Tree) → denotes x v ≡ Ok b → HasBillShape b × IsShallow b

-- What a JSON value denotes is a bill.
abbrev pub JsonDenotesBills : Type 0
JsonDenotesBills = (x : Value) (v : SpecVersion) (b : Tree) → json_denotes (view x) v ≡ Ok b → IsBill b × IsShallow b

-- What the root of a document of events denotes is a bill.
abbrev pub XmlDenotesBills : Type 0
XmlDenotesBills = (events : Events) (x : Node) (v : SpecVersion) (b : Tree) → events.list ≡ document x → xml_denotes x v ≡ Ok b → IsBill b × IsShallow b

-- ---- roads

-- the k-th of a list, where the first is the 1st
abbrev pub nth : {A : Type 0} → ℕ → List A → Option A
nth k [] = None
nth zero (x ∷ xs) = None
nth (suc zero) (x ∷ xs) = Some x
nth (suc k) (x ∷ xs) = nth k xs

-- the bill after hops, of which there may be none
abbrev pub after_all : Tree → List Hop → Tree
after_all b [] = b
after_all b (h ∷ hs) = after_road b h hs

-- A document denotes in a version a bill that is the same as b after the hops.
abbrev pub DenotesAfter : Tree → List Hop → Doc → SpecVersion → Type 0
DenotesAfter b hops y w = (c : Tree) × (denotes y w ≡ Ok c) × IsSame c (after_all b hops)

abbrev pub IsInForm : Form → Doc → Type 0
IsInForm in_json (json x) = Unit {0}
IsInForm in_xml (xml x) = Unit {0}
IsInForm _ _ = Never

-- There is a document for each hop. The k-th is in its hop's form, and denotes in its version a bill that is the same as b after the first k hops.
abbrev pub LeadsFrom : Tree → List Hop → List Doc → Type 0
LeadsFrom b hops docs = (length docs ≡ length hops)
    × ((k : ℕ) (h : Hop) (y : Doc) → nth k hops ≡ Some h → nth k docs ≡ Some y → IsInForm h.form y × DenotesAfter b (take k hops) y h.version)

-- The road of a document that denotes b, where b fits every hop, is such a list of documents.
abbrev pub RoadsLead : Type 0
RoadsLead = (b : Tree) (x : Doc) (v : SpecVersion) (hops : List Hop) → denotes x v ≡ Ok b → fits_all hops b ≡ true
    → (docs : List Doc) × (road x v hops ≡ Ok docs) × LeadsFrom b hops docs

-- ---- roads in two parts

-- the last document of a road and its version
abbrev pub end_doc : Doc → List Doc → Doc
end_doc x [] = x
end_doc x (y ∷ ys) = end_doc y ys

-- Where neither part of a road is refused, the whole gives the documents of both.
-- The whole is refused for a missing version exactly where a part is.
abbrev pub RoadsJoin : Type 0
RoadsJoin = (x : Doc) (v : SpecVersion) (hops rest : List Hop)
    → ((docs more : List Doc) → road x v hops ≡ Ok docs → road (end_doc x docs) (last_of v hops) rest ≡ Ok more → road x v (hops ++ rest) ≡ Ok (docs ++ more))
    × (road x v (hops ++ rest) ≡ Err version_missing
    ↔ ((road x v hops ≡ Err version_missing) ⊎ ((docs : List Doc) × (road x v hops ≡ Ok docs) × (road (end_doc x docs) (last_of v hops) rest ≡ Err version_missing))))

-- ---- settling

-- the lowest version of the hops with one more
abbrev pub lowest_with : List Hop → Hop → SpecVersion
lowest_with [] g = g.version
lowest_with (h ∷ hs) g = lowest_of h.version (hs ++ (g ∷ []))

-- how many hops go through XML, counted to n
abbrev pub xml_count : ℕ → List Hop → ℕ
xml_count zero hs = zero
xml_count (suc n) [] = zero
xml_count (suc n) (h ∷ hs) = elim h.form [ in_json ↦ xml_count (suc n) hs | in_xml ↦ suc (xml_count n hs) ]

-- the document that comes after those of the hops
abbrev pub doc_after : List Hop → List Doc → Doc → Doc
doc_after hs [] x = x
doc_after [] (y ∷ ys) x = y
doc_after (h ∷ hs) (y ∷ ys) x = doc_after hs ys x

-- Equal, save that in JSON 1.5 the one may have an empty tool list where the other has a tools object without parts.
abbrev pub IsAlike : SpecVersion → Doc → Doc → Type 0
IsAlike w x y = (x ≡ y) ⊎ ((w ≡ V1_5) × ((s : Tree) × (t : Tree) × (x ≡ json (jspell s V1_5 a_bill)) × (y ≡ json (jspell t V1_5 a_bill)) × IsSame s t))

-- Two hops of the same form and version, with the same lowest version so far and as many hops through XML so far, counted to two, give the same document.
abbrev pub RoadsSettle : Type 0
RoadsSettle = (x : Doc) (v : SpecVersion) (g g' h h' : List Hop) (a c : Hop) (docs docs' : List Doc)
    → road x v (g ++ (a ∷ g')) ≡ Ok docs → road x v (h ++ (c ∷ h')) ≡ Ok docs'
    → a.form ≡ c.form → a.version ≡ c.version → lowest_with g a ≡ lowest_with h c → xml_count 2 (g ++ (a ∷ [])) ≡ xml_count 2 (h ++ (c ∷ []))
    → IsAlike c.version (doc_after g docs x) (doc_after h docs' x)
