use Rattle.std.proofs.Common.{◌≡◌, ℕ, List, Bool, true, false, cond, Option, Some, None, refl, sym}
use Rattle.std.specs.Str.{is_utf8, IsUtf8}
use Rattle.std.proofs.lemmas.Str.{IsUtf8-from_is_utf8, is_utf8-from_IsUtf8}
use Rattle.serde_json.specs.Data.{Data}
use Rattle.serde_json.specs.Read.{read}
use Rattle.serde_json.specs.View.{view}
use Rattle.cdx_request.specs.Requests.{document_in_json}
use Rattle.cdx_tool.proofs.answer.make.read_json.Goals as goal

is_value : (bytes : List ℕ) (d : Data) → IsUtf8 bytes → read bytes ≡ Some d → Some d ≡ document_in_json bytes
is_value bytes d u r = rw (is_utf8-from_IsUtf8 bytes u) (sym r)

is_none : (b : Bool) (r : Option Data) → (b ≡ true → r ≡ None) → None ≡ cond b r None
is_none true r h = sym (h refl)
is_none false r h = refl

pub returns-in-Ok : goal.returns-in-Ok
returns-in-Ok c = is_value c.args.bytes.now (view c.in-Ok.value) c.in-Ok.ensures.ok.0 c.in-Ok.ensures.ok.1

pub returns-in_default : goal.returns-in_default
returns-in_default c = is_none (is_utf8 c.args.bytes.now) (read c.args.bytes.now) (λ e. c.in-Err.ensures.err (λ m. c.in_default.not-Memory (c.classify.ensures.memory.1 m)) (IsUtf8-from_is_utf8 c.args.bytes.now e))
