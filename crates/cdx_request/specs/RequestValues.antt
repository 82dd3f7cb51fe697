-- Requests as JSON values.
use Rattle.std.specs.Prelude.{ℕ, List, map, codes, Bool, true, false}
use Rattle.serde_json.specs.Data.{Data, string, array, object, no_members, member}
use Rattle.serde_json.specs.View.{items_of}
use Rattle.cdx_events.specs.Nodes.{element, document}
use Rattle.cdx_models.specs.Versions.{label}
use Rattle.cdx_schema.specs.Trips.{Form, in_json, in_xml, Hop}
use Rattle.cdx_schema.specs.Roads.{Doc, json, xml}
use Rattle.cdx_request.specs.Requests.{Sent, sent_value, sent_events, Request, Asked}
use Rattle.cdx_request.specs.Replies.{doc_value}

-- JSON, or XML whose root is an element and no text
abbrev pub has_root : Doc → Bool
has_root (json x) = true
has_root (xml (element name attributes namespace nodes)) = true
has_root (xml _) = false

abbrev pub form_word : Form → List ℕ
form_word in_json = codes "json"
form_word in_xml = codes "xml"

-- a hop: its form, and the label of its version
abbrev pub hop_value : Hop → Data
hop_value h = object (member (codes "form") (string (form_word h.form)) (member (codes "version") (string (label h.version)) no_members))

-- a request, with its members in byte order
abbrev pub request_value : Request → Data
request_value r = object (
    member (codes "doc") (doc_value r.doc) (
    member (codes "from") (string (label r.from)) (
    member (codes "hops") (array (items_of (map hop_value r.hops))) no_members)))

-- the document as it stands in a request
abbrev pub sent : Doc → Sent
sent (json x) = sent_value x
sent (xml root) = sent_events (document root)

-- what the request asks
abbrev pub asked : Request → Asked
asked r = record { from = r.from; sent = sent r.doc; hops = r.hops }
