-- The laws of roads, of the documents that calls answer.
use Rattle.std.specs.Prelude.{◌≡◌, ◌⊎◌, ◌↔◌, List, [], ◌∷◌, ◌++◌, length, slice_get, Bool, true, false, Some, Ok, Err}
use Rattle.serde_json.specs.View.{view}
use Rattle.cdx_models.specs.declared.bom.SpecVersion.{SpecVersion}
use Rattle.cdx_models.specs.declared.bom.SpecVersion.TheVariants.{V1_3, V1_5}
use Rattle.cdx_models.specs.declared.errors.Lack.TheVariants.{VersionMissing}
use Rattle.cdx_models.specs.declared.errors.BomError.TheVariants.{BomSerializationError}
use Rattle.cdx_models.specs.Trees.{Tree}
use Rattle.cdx_schema.specs.Kinds.{a_bill}
use Rattle.cdx_schema.specs.JsonSpelling.{jspell}
use Rattle.cdx_schema.specs.Trips.{IsSame, last_of}
use Rattle.cdx_schema.specs.Laws.{lowest_with, xml_count}
use Rattle.cdx_schema.specs.Roads as roads
use Rattle.cdx_bom.specs.declared.doc.Doc.{Doc}
use Rattle.cdx_bom.specs.declared.doc.Doc.TheVariants as doc
use Rattle.cdx_bom.specs.declared.doc.Hop.{Hop}
use Rattle.cdx_bom.specs.declared.doc.RoadError.{RoadError}
use Rattle.cdx_bom.specs.declared.doc.RoadError.TheVariants as error
use Rattle.cdx_bom.specs.Docs.{IsDoc, hop_of, hops_of, AnswersRoad}

-- ---- settling

-- Equal, save that in JSON 1.5 the one may have an empty tool list where the other has a tools object without parts.
abbrev pub AreAlike : SpecVersion → Doc → Doc → Type 0
AreAlike w (doc.Json u) (doc.Json v) = (view u ≡ view v)
    ⊎ ((w ≡ V1_5) × ((s : Tree) × (t : Tree) × (view u ≡ jspell s V1_5 a_bill) × (view v ≡ jspell t V1_5 a_bill) × IsSame s t))
AreAlike w (doc.Json u) (doc.Xml f) = ⊥
AreAlike w (doc.Xml e) (doc.Json v) = ⊥
AreAlike w (doc.Xml e) (doc.Xml f) = e.list ≡ f.list

-- the hop after g in these hops
abbrev pub with_hop : List Hop → Hop → List Hop → List Hop
with_hop g a g' = g ++ a ∷ g'

-- Let d be the document of hop a in one road, and e that of hop c in another from the same document, or in the same one. If the hops have one form and version, the same lowest version so far and as many hops through XML so far, counted to two, each with the hop itself, the documents are alike.
abbrev pub RoadsSettle : Type 0
RoadsSettle = (x : Doc) (y : roads.Doc) (v : SpecVersion) (g g' h h' : List Hop) (a c : Hop) (docs others : List Doc) (d e : Doc)
    → IsDoc x y → AnswersRoad x v (with_hop g a g') (Ok docs) → AnswersRoad x v (with_hop h c h') (Ok others)
    → slice_get docs (length g) ≡ Some d → slice_get others (length h) ≡ Some e
    → a.form ≡ c.form → a.version ≡ c.version → lowest_with (hops_of g) (hop_of a) ≡ lowest_with (hops_of h) (hop_of c) → xml_count 2 (hops_of (with_hop g a [])) ≡ xml_count 2 (hops_of (with_hop h c []))
    → AreAlike c.version d e

-- ---- roads in two parts

-- the last document of a road
abbrev pub end_doc : Doc → List Doc → Doc
end_doc x [] = x
end_doc x (d ∷ ds) = end_doc d ds

-- the version of the last document of a road that begins in version v
abbrev pub end_version : SpecVersion → List Hop → SpecVersion
end_version v hops = last_of v (hops_of hops)

abbrev pub unfit_error : RoadError
unfit_error = error.Bom (BomSerializationError V1_3 VersionMissing)

-- The road is refused for a missing version.
abbrev pub Misses : Doc → SpecVersion → List Hop → Type 0
Misses x v hops = AnswersRoad x v hops (Err unfit_error)

abbrev pub is_memory : RoadError → Bool
is_memory (error.Memory m) = true
is_memory e = false

-- Where neither part of a road is refused, the whole gives the documents of both.
abbrev pub PartsJoin : Type 0
PartsJoin = (x : Doc) (y : roads.Doc) (v : SpecVersion) (hops rest : List Hop) (docs more : List Doc)
    → IsDoc x y → AnswersRoad x v hops (Ok docs) → AnswersRoad (end_doc x docs) (end_version v hops) rest (Ok more) → AnswersRoad x v (hops ++ rest) (Ok (docs ++ more))

-- The whole is refused for a missing version where the first part is.
abbrev pub FirstMisses : Type 0
FirstMisses = (x : Doc) (y : roads.Doc) (v : SpecVersion) (hops rest : List Hop) → IsDoc x y → Misses x v hops → Misses x v (hops ++ rest)

-- Where the first part isn't refused, the whole is exactly where the second part is.
abbrev pub SecondMisses : Type 0
SecondMisses = (x : Doc) (y : roads.Doc) (v : SpecVersion) (hops rest : List Hop) (docs : List Doc)
    → IsDoc x y → AnswersRoad x v hops (Ok docs) → Misses x v (hops ++ rest) ↔ Misses (end_doc x docs) (end_version v hops) rest

-- There is no third case: where the whole is, a refusal of the first part is that of a missing version, or want of memory.
abbrev pub NoThird : Type 0
NoThird = (x : Doc) (y : roads.Doc) (v : SpecVersion) (hops rest : List Hop) (e : RoadError)
    → IsDoc x y → Misses x v (hops ++ rest) → AnswersRoad x v hops (Err e) → is_memory e ≡ false → Misses x v hops
