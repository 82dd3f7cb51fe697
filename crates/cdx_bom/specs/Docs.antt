-- Documents and roads beside those of the schema.
use Rattle.std.specs.Prelude.{◌≡◌, List, [], ◌∷◌, map, Option, Some, None, Result, Ok, Err}
use Rattle.serde_json.specs.View.{view}
use Rattle.cdx_events.specs.Nodes.{document}
use Rattle.cdx_models.specs.declared.bom.SpecVersion.{SpecVersion}
use Rattle.cdx_models.specs.declared.bom.SpecVersion.TheVariants.{V1_3}
use Rattle.cdx_models.specs.declared.errors.Lack.TheVariants.{VersionMissing}
use Rattle.cdx_models.specs.declared.errors.BomError.TheVariants.{BomSerializationError}
use Rattle.cdx_models.specs.declared.errors.JsonReadError.TheVariants.{JsonElementReadError}
use Rattle.cdx_models.specs.declared.errors.XmlReadError.TheVariants as in_events
use Rattle.cdx_schema.specs.Trips as trips
use Rattle.cdx_schema.specs.Roads as roads
use Rattle.cdx_schema.specs.Roads.{Refusal, of_json, of_xml, version_missing}
use Rattle.cdx_bom.specs.declared.doc.Doc.{Doc}
use Rattle.cdx_bom.specs.declared.doc.Doc.TheVariants as doc
use Rattle.cdx_bom.specs.declared.doc.Form.{Form}
use Rattle.cdx_bom.specs.declared.doc.Form.TheVariants as form
use Rattle.cdx_bom.specs.declared.doc.Hop.{Hop}
use Rattle.cdx_bom.specs.declared.doc.RoadError.{RoadError}
use Rattle.cdx_bom.specs.declared.doc.RoadError.TheVariants as error

-- ---- documents

-- A JSON document is its value, and a document of events is its root. Every document is exactly one of the schema.
abbrev pub IsDoc : Doc → roads.Doc → Type 0
IsDoc (doc.Json value) (roads.json x) = view value ≡ x
IsDoc (doc.Json value) (roads.xml root) = ⊥
IsDoc (doc.Xml events) (roads.json x) = ⊥
IsDoc (doc.Xml events) (roads.xml root) = events.list ≡ document root

-- Each is the document at its place, and there are as many.
abbrev pub AreDocs : List Doc → List roads.Doc → Type 0
AreDocs [] [] = Unit {0}
AreDocs [] (y ∷ ys) = ⊥
AreDocs (d ∷ ds) [] = ⊥
AreDocs (d ∷ ds) (y ∷ ys) = IsDoc d y × AreDocs ds ys

-- ---- hops

abbrev pub form_of : Form → trips.Form
form_of form.Json = trips.in_json
form_of form.Xml = trips.in_xml

abbrev pub hop_of : Hop → trips.Hop
hop_of h = record { form = form_of h.form; version = h.version }

abbrev pub hops_of : List Hop → List trips.Hop
hops_of hops = map hop_of hops

-- ---- what a road answers

-- The refusal that an error is. Want of memory is none, wherever it stands, and neither is an error that is kept for the
-- crate's sake.
abbrev pub refusal_of : RoadError → Option Refusal
refusal_of (error.Json (JsonElementReadError path kind)) = Some (of_json (record { path = path.0; cause = kind }))
refusal_of (error.Json _) = None
refusal_of (error.Xml (in_events.Memory m)) = None
refusal_of (error.Xml fault) = Some (of_xml fault)
refusal_of (error.Bom (BomSerializationError V1_3 VersionMissing)) = Some version_missing
refusal_of (error.Bom _) = None
refusal_of (error.Memory m) = None

-- The error is what is owed: a refusal. Want of memory alone is free.
abbrev pub Refuses : {A : Type 0} → Result A Refusal → RoadError → Type 0
Refuses owed (error.Memory m) = Unit {0}
Refuses owed e = (r : Refusal) × (refusal_of e ≡ Some r) × (owed ≡ Err r)

-- An answer is what is owed: these documents in order, or this refusal.
abbrev pub AnswersDocs : Result (List roads.Doc) Refusal → Result (List Doc) RoadError → Type 0
AnswersDocs owed (Ok docs) = (ys : List roads.Doc) × (owed ≡ Ok ys) × AreDocs docs ys
AnswersDocs owed (Err e) = Refuses owed e

-- The answer is the road of the document, read in the version, along the hops.
abbrev pub AnswersRoad : Doc → SpecVersion → List Hop → Result (List Doc) RoadError → Type 0
AnswersRoad document from hops result = (x : roads.Doc) → IsDoc document x → AnswersDocs (roads.road x from (hops_of hops)) result

abbrev pub alone : Result Doc RoadError → Result (List Doc) RoadError
alone (Ok d) = Ok (d ∷ [])
alone (Err e) = Err e

-- The same of a road of one hop, of whose documents the one is given.
abbrev pub AnswersHop : Doc → SpecVersion → Hop → Result Doc RoadError → Type 0
AnswersHop document from hop result = AnswersRoad document from (hop ∷ []) (alone result)
