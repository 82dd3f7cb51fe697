-- The answer to the bytes of a request.
use Rattle.std.specs.Prelude.{ℕ, List, [], ◌∷◌, ◌++◌, length, map, codes, nat_lt, if◌then◌else◌, Result, Ok, Err}
use Rattle.serde_json.specs.Data.{Data, string, array}
use Rattle.serde_json.specs.View.{items_of}
use Rattle.serde_json.specs.Written.{compact_text}
use Rattle.cdx_events.specs.Nodes.{document}
use Rattle.cdx_schema.specs.Roads.{Doc, json, xml, Refusal, road}
use Rattle.cdx_request.specs.EventValues.{events_value}
use Rattle.cdx_request.specs.Refusals.{only, refusal_value, imbalance_value}
use Rattle.cdx_request.specs.Requests.{Misread, not_json, shape, unbalanced, Request, request_in}

-- the status that the program ends with, and the text that it writes
pub record Reply : Type 0 where
  pub status : ℕ
  pub text : List ℕ

-- a value's text, and a line feed
abbrev pub line_of : Data → List ℕ
line_of x = compact_text x ++ 10 ∷ []

abbrev pub reply : ℕ → Data → Reply
reply status x = record { status = status; text = line_of x }

-- ---- documents

abbrev pub doc_value : Doc → Data
doc_value (json x) = only (codes "json") x
doc_value (xml root) = only (codes "xml") (events_value (document root))

abbrev pub documents_value : List Doc → Data
documents_value docs = only (codes "documents") (array (items_of (map doc_value docs)))

-- ---- replies

-- the answer to words or bytes that are no request, for a reason
abbrev pub no_request : List ℕ → Data
no_request reason = only (codes "request") (string reason)

abbrev pub reply_to_misread : Misread → Reply
reply_to_misread not_json = reply 2 (no_request (codes "not JSON"))
reply_to_misread shape = reply 2 (no_request (codes "shape"))
reply_to_misread (unbalanced place) = reply 1 (imbalance_value place)

abbrev pub reply_to_road : Result (List Doc) Refusal → Reply
reply_to_road (Ok docs) = reply 0 (documents_value docs)
reply_to_road (Err r) = reply 1 (refusal_value r)

abbrev pub reply_to_request : Result Request Misread → Reply
reply_to_request (Err e) = reply_to_misread e
reply_to_request (Ok r) = reply_to_road (road r.doc r.from r.hops)

-- how many bytes a request may have
abbrev pub limit : ℕ
limit = 67108864

-- the answer to these bytes
abbrev pub reply_to : List ℕ → Reply
reply_to bytes = if nat_lt limit (length bytes) then reply 6 (no_request (codes "too long")) else reply_to_request (request_in bytes)
