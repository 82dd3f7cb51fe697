-- Requests: a document, the version in which it is read, and the hops of its road.
use Rattle.std.specs.Prelude.{ℕ, ◌==◌, List, codes, if◌then◌else◌, Option, Some, None, option_map, Result, Ok, Err}
use Rattle.std.specs.Str.{bytes_eq, is_utf8}
use Rattle.serde_json.specs.Data.{Data}
use Rattle.serde_json.specs.Read.{read}
use Rattle.serde_json.specs.Find.{get, as_array}
use Rattle.cdx_events.specs.declared.event.XmlEvent.{XmlEvent}
use Rattle.cdx_events.specs.Balance.{OpenElement}
use Rattle.cdx_events.specs.Root.{root_of, node_of}
use Rattle.cdx_models.specs.declared.bom.SpecVersion.{SpecVersion}
use Rattle.cdx_schema.specs.Trips.{Form, in_json, in_xml, Hop}
use Rattle.cdx_schema.specs.Roads.{Doc, json, xml}
use Rattle.cdx_request.specs.Parts.{◌>>=◌, member_count, text_at, version_at, all_in}
use Rattle.cdx_request.specs.EventReading.{events_in}
use Rattle.cdx_request.specs.Breaks.{broken}

-- why bytes are no request
pub data Misread : Type 0 where
  not_json : Misread
  shape : Misread
  unbalanced : ℕ → Misread

-- ---- the document

-- a document as it stands in a request
pub data Sent : Type 0 where
  sent_value : Data → Sent
  sent_events : List XmlEvent → Sent

abbrev pub sent_under : Option Data → Option Data → Option Sent
sent_under (Some x) events = Some (sent_value x)
sent_under None events = option_map (λ es. sent_events es) (events >>= events_in)

-- A document stands in an object as its only member: any value under `json`, or an array of events under `xml`.
abbrev pub sent_of : Data → Option Sent
sent_of d = if member_count d == 1 then sent_under (get (codes "json") d) (get (codes "xml") d) else None

-- Events are a document where they have a root, and else break at a place.
abbrev pub rooted : List XmlEvent → Option OpenElement → Result Doc Misread
rooted events (Some root) = Ok (xml (node_of root))
rooted events None = Err (unbalanced (broken events))

abbrev pub doc_of : Sent → Result Doc Misread
doc_of (sent_value x) = Ok (json x)
doc_of (sent_events events) = rooted events (root_of events)

abbrev pub doc_if : Option Sent → Result Doc Misread
doc_if None = Err shape
doc_if (Some s) = doc_of s

-- the document of a value
abbrev pub doc_in : Data → Result Doc Misread
doc_in d = doc_if (sent_of d)

-- ---- the hops

abbrev pub form_named : List ℕ → Option Form
form_named s = if bytes_eq s (codes "json") then Some in_json else (if bytes_eq s (codes "xml") then Some in_xml else None)

abbrev pub hop_parts : Data → Option Hop
hop_parts d = do
  form ← text_at (codes "form") d >>= form_named
  version ← version_at (codes "version") d
  Some (record { form = form; version = version })

-- an object with `form` and `version`, and no other member
abbrev pub hop_meant : Data → Option Hop
hop_meant d = if member_count d == 2 then hop_parts d else None

abbrev pub hops_at : Data → Option (List Hop)
hops_at d = get (codes "hops") d >>= as_array >>= all_in hop_meant

-- ---- requests

pub record Request : Type 0 where
  pub from : SpecVersion
  pub doc : Doc
  pub hops : List Hop

-- the parts of a request, before it is seen whether its events are balanced
pub record Asked : Type 0 where
  pub from : SpecVersion
  pub sent : Sent
  pub hops : List Hop

abbrev pub asked_parts : Data → Option Asked
asked_parts d = do
  from ← version_at (codes "from") d
  sent ← get (codes "doc") d >>= sent_of
  hops ← hops_at d
  Some (record { from = from; sent = sent; hops = hops })

-- an object with `from`, `doc` and `hops`, and no other member
abbrev pub asked_of : Data → Option Asked
asked_of d = if member_count d == 3 then asked_parts d else None

abbrev pub asking : SpecVersion → List Hop → Result Doc Misread → Result Request Misread
asking from hops (Ok doc) = Ok (record { from = from; doc = doc; hops = hops })
asking from hops (Err e) = Err e

abbrev pub request_if : Option Asked → Result Request Misread
request_if None = Err shape
request_if (Some a) = asking a.from a.hops (doc_of a.sent)

-- the request of a value, whose shape comes before the balance of its events
abbrev pub request_of : Data → Result Request Misread
request_of d = request_if (asked_of d)

-- the value that the bytes are
abbrev pub document_in_json : List ℕ → Option Data
document_in_json bytes = if is_utf8 bytes then read bytes else None

abbrev pub request_from : Option Data → Result Request Misread
request_from None = Err not_json
request_from (Some d) = request_of d

-- the one request that the bytes are
abbrev pub request_in : List ℕ → Result Request Misread
request_in bytes = request_from (document_in_json bytes)
