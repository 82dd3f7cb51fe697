-- What a value is read as, beside the request that it is.
use Rattle.std.specs.Prelude.{◌≡◌, ◌==◌, ℕ, List, codes, if◌then◌else◌, Option, Some, None, option_map, Result, Ok, Err}
use Rattle.std.specs.Str.{bytes_eq}
use Rattle.serde_json.specs.Data.{Data}
use Rattle.serde_json.specs.View.{view, items_view}
use Rattle.cdx_bom.specs.declared.doc.Form.{Form}
use Rattle.cdx_bom.specs.declared.doc.Form.TheVariants as form
use Rattle.cdx_bom.specs.declared.doc.Hop.{Hop}
use Rattle.cdx_bom.specs.Docs.{IsDoc, hops_of}
use Rattle.cdx_request.specs.EventReading.{event_of}
use Rattle.cdx_request.specs.Parts.{◌>>=◌, member_count, text_at, version_at, all_in}
use Rattle.cdx_request.specs.Requests.{Misread, shape, unbalanced}
use Rattle.cdx_request.specs.Requests as asked
use Rattle.cdx_tool.specs.declared.request.Request.{Request}
use Rattle.cdx_tool.specs.declared.request.RequestError.{RequestError}
use Rattle.cdx_tool.specs.declared.request.RequestError.TheVariants.{Shape, Unbalanced, Memory}
use Rattle.cdx_tool.specs.declared.request.sent.Sent.{Sent}
use Rattle.cdx_tool.specs.declared.request.sent.Sent.TheVariants.{Json, Xml}
use Rattle.cdx_tool.specs.declared.request.sent.Unread.{Unread}
use Rattle.cdx_tool.specs.declared.request.sent.Unread.TheVariants as unread
use Rattle.cdx_tool.specs.declared.request.sent.Asked.{Asked}

-- The answer is what is owed: a thing that is what is meant, or the reason why there is none. Want of memory alone is
-- free.
abbrev pub ReadsOwed : {A B : Type 0} → (A → B → Type 0) → Result B Misread → Result A RequestError → Type 0
ReadsOwed Is owed (Ok x) = (y : _) × (owed ≡ Ok y) × Is x y
ReadsOwed Is owed (Err Shape) = owed ≡ Err shape
ReadsOwed Is owed (Err (Unbalanced place)) = owed ≡ Err (unbalanced place)
ReadsOwed Is owed (Err (Memory e)) = Unit {0}

-- the same where nothing but the shape is asked
abbrev pub ReadsIf : {A : Type 0} → Option A → Result A RequestError → Type 0
ReadsIf owed (Ok x) = owed ≡ Some x
ReadsIf owed (Err Shape) = owed ≡ None
ReadsIf owed (Err (Unbalanced place)) = ⊥
ReadsIf owed (Err (Memory e)) = Unit {0}

-- the same of what was read as a thing that isn't kept, of which something else holds
abbrev pub TakesIf : {A B : Type 0} → Option A → (A → B → Type 0) → Result B RequestError → Type 0
TakesIf owed taken (Ok y) = (x : _) × (owed ≡ Some x) × taken x y
TakesIf owed taken (Err Shape) = owed ≡ None
TakesIf owed taken (Err (Unbalanced place)) = ⊥
TakesIf owed taken (Err (Memory e)) = Unit {0}

-- a request stands for this one
abbrev pub IsRequest : Request → asked.Request → Type 0
IsRequest r q = (r.from ≡ q.from) × IsDoc r.doc q.doc × (hops_of r.hops ≡ q.hops)

-- ---- before the events are balanced

abbrev pub sent_in : Sent → asked.Sent
sent_in (Json value) = asked.sent_value (view value)
sent_in (Xml events) = asked.sent_events events

-- the document where each item of its array is an event
abbrev pub sent_unread : Unread → Option asked.Sent
sent_unread (unread.Json value) = Some (asked.sent_value (view value))
sent_unread (unread.Xml items) = option_map (λ es. asked.sent_events es) (all_in event_of (items_view items.items))

abbrev pub asked_with : {D : Type 0} → Asked D → asked.Sent → asked.Asked
asked_with a sent = record { from = a.from; sent = sent; hops = hops_of a.hops }

abbrev pub asked_in : Asked Sent → asked.Asked
asked_in a = asked_with a (sent_in a.sent)

abbrev pub asked_unread : Asked Unread → Option asked.Asked
asked_unread a = option_map (asked_with a) (sent_unread a.sent)

-- ---- hops

abbrev pub form_in : List ℕ → Option Form
form_in s = if bytes_eq s (codes "json") then Some form.Json else (if bytes_eq s (codes "xml") then Some form.Xml else None)

abbrev pub hop_parts_in : Data → Option Hop
hop_parts_in d = do
  form ← text_at (codes "form") d >>= form_in
  version ← version_at (codes "version") d
  Some (record { form = form; version = version })

-- the hop of a value, whose like in the schema is the one that is asked (`Hops.hop_is`)
abbrev pub hop_in : Data → Option Hop
hop_in d = if member_count d == 2 then hop_parts_in d else None
