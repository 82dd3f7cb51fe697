-- What the program of losses owes to words and bytes.
use Rattle.std.specs.Prelude.{ℕ, List, [], ◌∷◌, codes, if◌then◌else◌, Option, Some, None, Result, Ok, Err, String, string_bytes, bytes_eq}
use Rattle.std.specs.declared.alloc.Global.{Global}
use Rattle.serde_json.specs.Data.{Data}
use Rattle.cdx_models.specs.declared.bom.SpecVersion.{SpecVersion}
use Rattle.cdx_models.specs.Trees.{Tree}
use Rattle.cdx_schema.specs.Results.{◌>>=◌}
use Rattle.cdx_schema.specs.Trips.{Hop}
use Rattle.cdx_schema.specs.Roads.{Doc, Refusal, version_missing, denotes, fits_all}
use Rattle.cdx_request.specs.Requests.{Misread, Request, request_in}
use Rattle.cdx_request.specs.Replies.{Reply, reply_to_misread}
use Rattle.cdx_tool.specs.Owed.{reply_by}
use Rattle.cdx_tool.specs.Asks.{billed, reply_to_bill}
use Rattle.cdx_losses.specs.Losses.{taken}
use Rattle.cdx_losses.specs.Answers.{losses_answer}
use Rattle.cdx_losses.specs.declared.serving.Command.{Command}
use Rattle.cdx_losses.specs.declared.serving.Command.TheVariants.{Losses}

-- ---- the bill

-- a bill that fits every hop, or that a version is missing
abbrev pub if_fit : List Hop → Tree → Result Tree Refusal
if_fit hops b = if fits_all hops b then Ok b else Err version_missing

-- The bill that the road of a document carries, or why that is refused: the document's first fault comes before a missing
-- version.
abbrev pub carried : Doc → SpecVersion → List Hop → Result Tree Refusal
carried x v hops = do
  b ← denotes x v
  if_fit hops b

-- ---- the answer

-- what a road takes of a bill
abbrev pub answer_to : List Hop → Tree → Data
answer_to hops b = losses_answer (taken b hops)

abbrev pub losses_reply : Result Request Misread → Reply
losses_reply (Ok r) = reply_to_bill (answer_to r.hops) (billed (carried r.doc r.from r.hops))
losses_reply (Err e) = reply_to_misread e

-- to bytes that are no more than the limit
abbrev pub owed : List ℕ → Reply
owed bytes = losses_reply (request_in bytes)

-- ---- words

-- the one word `losses`
abbrev pub command_of : List (String Global) → Option Command
command_of [] = None
command_of (word ∷ []) = if bytes_eq (string_bytes word) (codes "losses") then Some Losses else None
command_of (word ∷ next ∷ words) = None

-- the reply to these words and bytes
abbrev pub reply_for : List (String Global) → List ℕ → Reply
reply_for words bytes = reply_by (λ c bs. owed bs) (command_of words) bytes
