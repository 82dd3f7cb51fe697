-- Documents, and what a road of hops makes of one.
use Rattle.std.specs.Prelude.{List, [], ◌∷◌, Bool, true, ◌&&◌, if◌then◌else◌, Result, Ok, Err}
use Rattle.serde_json.specs.Data.{Data}
use Rattle.cdx_models.specs.declared.bom.SpecVersion.{SpecVersion}
use Rattle.cdx_models.specs.Trees.{Tree}
use Rattle.cdx_schema.specs.Kinds.{a_bill}
use Rattle.cdx_schema.specs.Results.{◌>>=◌}
use Rattle.cdx_schema.specs.Faults.{JsonFault}
use Rattle.cdx_models.specs.declared.errors.XmlReadError.{XmlReadError}
use Rattle.cdx_events.specs.Nodes.{Node}
use Rattle.cdx_schema.specs.Keeping.{keep, fits}
use Rattle.cdx_schema.specs.Trips.{Form, in_json, in_xml, Hop}
use Rattle.cdx_schema.specs.JsonReading.{json_denotes}
use Rattle.cdx_schema.specs.JsonSpelling.{jspell}
use Rattle.cdx_schema.specs.XmlReading.{xml_denotes}
use Rattle.cdx_schema.specs.XmlSpelling.{root}

-- An XML document is its root.
pub data Doc : Type 0 where
  json : Data → Doc
  xml : Node → Doc

pub data Refusal : Type 0 where
  of_json : JsonFault → Refusal
  of_xml : XmlReadError → Refusal
  version_missing : Refusal

abbrev pub from_json : {A : Type 0} → Result A JsonFault → Result A Refusal
from_json (Ok x) = Ok x
from_json (Err f) = Err (of_json f)

abbrev pub from_xml : {A : Type 0} → Result A XmlReadError → Result A Refusal
from_xml (Ok x) = Ok x
from_xml (Err f) = Err (of_xml f)

-- The one bill of a document in a version, or its fault.
abbrev pub denotes : Doc → SpecVersion → Result Tree Refusal
denotes (json x) v = from_json (json_denotes x v)
denotes (xml x) v = from_xml (xml_denotes x v)

-- A bill as a document.
abbrev pub document_of : Form → SpecVersion → Tree → Doc
document_of in_json w b = json (jspell b w a_bill)
document_of in_xml w b = xml (root b w)

abbrev pub fits_all : List Hop → Tree → Bool
fits_all [] b = true
fits_all (h ∷ hs) b = fits h.version b a_bill && fits_all hs b

-- Each hop reads the document before it and writes what its version keeps.
abbrev pub hops_from : Doc → SpecVersion → List Hop → Result (List Doc) Refusal
hops_from x v [] = Ok []
hops_from x v (h ∷ hs) = do
  b ← denotes x v
  rest ← hops_from (document_of h.form h.version (keep h.version b a_bill)) h.version hs
  Ok (document_of h.form h.version (keep h.version b a_bill) ∷ rest)

abbrev pub road : Doc → SpecVersion → List Hop → Result (List Doc) Refusal
road x v hs = do
  b ← denotes x v
  if fits_all hs b then hops_from x v hs else Err version_missing
