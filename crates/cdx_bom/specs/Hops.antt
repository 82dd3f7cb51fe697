-- The steps of a road.
use Rattle.std.specs.Prelude.{◌≡◌, List, [], ◌∷◌, Bool, true, false, ◌&&◌, ◌||◌, if◌then◌else◌, Option, Some, None, Result, Ok, Err}
use Rattle.cdx_models.specs.declared.bom.SpecVersion.{SpecVersion}
use Rattle.cdx_models.specs.Versions.{is_first}
use Rattle.cdx_models.specs.Trees.{Tree}
use Rattle.cdx_schema.specs.Kinds.{a_bill}
use Rattle.cdx_schema.specs.Keeping.{keep, fits}
use Rattle.cdx_schema.specs.Trips as trips
use Rattle.cdx_schema.specs.Roads as roads
use Rattle.cdx_schema.specs.Roads.{Refusal, document_of, denotes, hops_from, road}
use Rattle.cdx_trips.specs.Surviving.{survives}
use Rattle.cdx_bom.specs.declared.bom.Bom.{Bom}
use Rattle.cdx_bom.specs.declared.doc.Doc.{Doc}
use Rattle.cdx_bom.specs.declared.doc.Hop.{Hop}
use Rattle.cdx_bom.specs.declared.doc.RoadError.{RoadError}
use Rattle.cdx_bom.specs.Trees.{bom_tree}
use Rattle.cdx_bom.specs.Docs.{IsDoc, Refuses, hops_of}

-- a hop is written in 1.3
abbrev pub any_first : List trips.Hop → Bool
any_first [] = false
any_first (h ∷ hs) = is_first h.version || any_first hs

-- The bill is what is denoted, or the error is the refusal.
abbrev pub DenotesBill : Result Tree Refusal → Result Bom RoadError → Type 0
DenotesBill denoted (Ok bill) = denoted ≡ Ok (bom_tree bill)
DenotesBill denoted (Err e) = Refuses denoted e

-- what a hop makes of a bill
abbrev pub hop_document : Tree → trips.Hop → roads.Doc
hop_document b h = document_of h.form h.version (keep h.version b a_bill)

-- A document denotes the bill.
abbrev pub IsDenoted : Tree → Type 0
IsDenoted b = (x : roads.Doc) × (v : SpecVersion) × (denotes x v ≡ Ok b)

-- What a version has kept comes back of a form: of XML, where a trip takes nothing of it.
abbrev pub stands_in : trips.Form → Tree → Bool
stands_in trips.in_json b = true
stands_in trips.in_xml b = survives b a_bill

-- The version can hold the bill, and what it keeps comes back of the form.
abbrev pub comes_back : Tree → trips.Hop → Bool
comes_back b h = fits h.version b a_bill && stands_in h.form (keep h.version b a_bill)

-- what comes back, where it does
abbrev pub coming_back : Tree → trips.Hop → Option Tree
coming_back b h = if comes_back b h then Some (keep h.version b a_bill) else None

-- The bill that the next hop writes, which this hop's document denotes where a document denotes this bill.
abbrev pub next_of : Tree → trips.Hop → Result Tree Refusal
next_of b h = if comes_back b h then Ok (keep h.version b a_bill) else denotes (hop_document b h) h.version

-- The road starts with the bill of its document, since every hop's version can hold it; or the error is the refusal.
abbrev pub AnswersStart : roads.Doc → SpecVersion → List trips.Hop → Result Bom RoadError → Type 0
AnswersStart x from hops (Ok bill) = (denotes x from ≡ Ok (bom_tree bill)) × (road x from hops ≡ hops_from x from hops)
AnswersStart x from hops (Err e) = Refuses (road x from hops) e

-- The same of the document that a caller gives.
abbrev pub StartsRoad : Doc → SpecVersion → List Hop → Result Bom RoadError → Type 0
StartsRoad document from hops result = (x : roads.Doc) → IsDoc document x → AnswersStart x from (hops_of hops) result
