-- What the answers of status 0 hold, and what is owed to which request.
use Rattle.std.specs.Prelude.{◌≡◌, ℕ, ◌≤◌, List, [], ◌∷◌, length, true, false, Some, Ok}
use Rattle.std.specs.List.{list_all}
use Rattle.serde_json.specs.Data.{Data, depth}
use Rattle.serde_json.specs.Written.{has_float, compact_text}
use Rattle.cdx_events.specs.Nodes.{Node, document}
use Rattle.cdx_events.specs.declared.event.XmlEvent.{XmlEvent}
use Rattle.cdx_models.specs.declared.bom.SpecVersion.{SpecVersion}
use Rattle.cdx_models.specs.Trees.{Tree}
use Rattle.cdx_schema.specs.Trips.{Hop}
use Rattle.cdx_schema.specs.Roads.{Doc, json, xml, Refusal, denotes, fits_all, road}
use Rattle.cdx_schema.specs.Laws.{LeadsFrom}
use Rattle.cdx_request.specs.EventValues.{events_value}
use Rattle.cdx_request.specs.EventReading.{events_in}
use Rattle.cdx_request.specs.Requests.{Request, doc_in, request_of, request_in}
use Rattle.cdx_request.specs.Refusals.{refusal_value}
use Rattle.cdx_request.specs.Replies.{line_of, doc_value, documents_value, limit, reply_to}
use Rattle.cdx_request.specs.RequestValues.{has_root, request_value}
use Rattle.cdx_request.specs.Made.{made_road, made_counts, count_value}

-- The bytes are one request, whose document denotes one bill in its version. The documents are those of the road:
-- one for each hop, in the hop's form, which denotes in the hop's version the same as the bill after the hops up to it.
pub record Serves (bytes : List ℕ) (docs : List Doc) : Type 0 where
  pub request : Request
  pub the_bill : Tree
  pub asks : request_in bytes ≡ Ok request
  pub denoted : denotes request.doc request.from ≡ Ok the_bill
  pub led : road request.doc request.from request.hops ≡ Ok docs
  pub leads : LeadsFrom the_bill request.hops docs

-- A request is valid where its document denotes a bill that fits every hop.
pub record IsValid (r : Request) : Type 0 where
  pub the_bill : Tree
  pub denoted : denotes r.doc r.from ≡ Ok the_bill
  pub fit : fits_all r.hops the_bill ≡ true

-- Events that are written in an answer are read back from a request.
abbrev pub EventsBack : Type 0
EventsBack = (events : List XmlEvent) → events_in (events_value events) ≡ Some events

-- A document with a root that is written in an answer is read back from a request.
abbrev pub DocsBack : Type 0
DocsBack = (d : Doc) → has_root d ≡ true → doc_in (doc_value d) ≡ Ok d

-- A request whose document has a root is read back from its value.
abbrev pub RequestsBack : Type 0
RequestsBack = (r : Request) → has_root r.doc ≡ true → request_of (request_value r) ≡ Ok r

-- The document of each request that is read has a root.
abbrev pub AskedHaveRoots : Type 0
AskedHaveRoots = (d : Data) (r : Request) → request_of d ≡ Ok r → has_root r.doc ≡ true

-- So has each document of a road.
abbrev pub AnsweredHaveRoots : Type 0
AnsweredHaveRoots = (x : Doc) (v : SpecVersion) (hops : List Hop) (docs : List Doc) → road x v hops ≡ Ok docs → list_all has_root docs ≡ true

-- No answer of documents holds a float.
abbrev pub NoFloats : Type 0
NoFloats = (x : Doc) (v : SpecVersion) (hops : List Hop) (docs : List Doc) → road x v hops ≡ Ok docs → has_float (documents_value docs) ≡ false

-- No answer to a refused document holds one.
abbrev pub NoFloatRefused : Type 0
NoFloatRefused = (r : Refusal) → has_float (refusal_value r) ≡ false

-- A reply of status 0 holds the documents of one served request.
abbrev pub ReplyLaw : Type 0
ReplyLaw = (bytes : List ℕ) → (reply_to bytes).status ≡ 0 → (docs : List Doc) × Serves bytes docs × ((reply_to bytes).text ≡ line_of (documents_value docs))

-- A valid request of no more bytes than the limit is owed such a reply.
abbrev pub ValidLaw : Type 0
ValidLaw = (bytes : List ℕ) (r : Request) → length bytes ≤ limit → request_in bytes ≡ Ok r → IsValid r → (reply_to bytes).status ≡ 0

-- The answer of the documents of a road nests no deeper than 107 arrays and objects.
abbrev pub AnswersNest : Type 0
AnswersNest = (x : Doc) (v : SpecVersion) (hops : List Hop) (docs : List Doc) → road x v hops ≡ Ok docs → depth (documents_value docs) ≤ 107

-- The road of a made bill is an XML document and then a JSON document. The answer counts the events of the first and
-- the bytes of the second one's text.
pub record IsMade (n : ℕ) : Type 0 where
  pub root : Node
  pub value : Data
  pub led : made_road n ≡ Ok (xml root ∷ json value ∷ [])
  pub counted : count_value n ≡ made_counts (length (compact_text value)) n (length (document root))

abbrev pub MadeLaw : Type 0
MadeLaw = (n : ℕ) → IsMade n
