-- The bill that is made from a number, and the answer that counts what its road writes.
use Rattle.std.specs.Prelude.{ℕ, zero, suc, List, [], ◌∷◌, ◌++◌, length, codes, decimal, Result, Ok}
use Rattle.serde_json.specs.Data.{unsigned, Data, null, object, no_members, member}
use Rattle.serde_json.specs.Data as value
use Rattle.serde_json.specs.Written.{compact_text}
use Rattle.cdx_events.specs.Nodes.{document}
use Rattle.cdx_models.specs.declared.bom.SpecVersion.TheVariants.{V1_4, V1_5}
use Rattle.cdx_models.specs.Versions.{label}
use Rattle.cdx_models.specs.Trees.{bill, component, Tree, absent, text, number, items, fields, Trees, none, more, trees}
use Rattle.cdx_schema.specs.Kinds.{a_bill}
use Rattle.cdx_schema.specs.JsonSpelling.{jspell}
use Rattle.cdx_schema.specs.Trips.{in_json, in_xml, Hop}
use Rattle.cdx_schema.specs.Roads.{Doc, json, xml, Refusal, road}
use Rattle.cdx_request.specs.Refusals.{only}
use Rattle.cdx_request.specs.Replies.{Reply, reply}

-- a component of this type, name and version, and nothing else
abbrev pub plain_component : List ℕ → List ℕ → List ℕ → Tree
plain_component type name version = fields component (trees (
    text type ∷ absent ∷ absent ∷ absent ∷ absent ∷ absent ∷
    absent ∷ text name ∷ text version ∷ absent ∷ absent ∷ absent ∷
    absent ∷ absent ∷ absent ∷ absent ∷ absent ∷ absent ∷
    absent ∷ absent ∷ absent ∷ absent ∷ absent ∷ absent ∷ []))

-- the library `c` and the number, whose version is the number
abbrev pub made_component : ℕ → Tree
made_component i = plain_component (codes "library") (codes "c" ++ decimal i) (decimal i)

-- so many components, numbered on from i
unfoldable pub made_components : ℕ → ℕ → Trees
made_components i zero = none
made_components i (suc n) = more (made_component i) (made_components (suc i) n)

-- A bill of 1.5 with version 1, whose components are numbered from 0 to n - 1.
abbrev pub made_bill : ℕ → Tree
made_bill n = fields bill (trees (text (label V1_5) ∷ number 1 ∷ absent ∷ absent ∷ items (made_components 0 n) ∷ absent ∷ absent ∷ absent ∷ absent ∷ absent ∷ absent ∷ []))

-- its JSON document in 1.5
abbrev pub made_doc : ℕ → Doc
made_doc n = json (jspell (made_bill n) V1_5 a_bill)

-- XML 1.5, and then JSON 1.4
abbrev pub made_hops : List Hop
made_hops = record { form = in_xml; version = V1_5 } ∷ record { form = in_json; version = V1_4 } ∷ []

-- the documents that the road of the bill writes
abbrev pub made_road : ℕ → Result (List Doc) Refusal
made_road n = road (made_doc n) V1_5 made_hops

-- how many bytes the second document's text has, how many components the bill has, and how many events the first document has
abbrev pub made_counts : ℕ → ℕ → ℕ → Data
made_counts bytes n events = only (codes "made") (object (
    member (codes "bytes") (value.number (unsigned bytes)) (
    member (codes "components") (value.number (unsigned n)) (
    member (codes "events") (value.number (unsigned events)) no_members))))

-- Its road has these two documents (`MadeLaw`).
abbrev pub count_answer : ℕ → Result (List Doc) Refusal → Data
count_answer n (Ok (xml root ∷ json x ∷ [])) = made_counts (length (compact_text x)) n (length (document root))
count_answer n _ = null

-- the answer of so many components
abbrev pub count_value : ℕ → Data
count_value n = count_answer n (made_road n)

abbrev pub made_reply : ℕ → Reply
made_reply n = reply 0 (count_value n)
