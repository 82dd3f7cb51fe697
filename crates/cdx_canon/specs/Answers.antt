-- What the program of canonical texts answers.
use Rattle.std.specs.Prelude.{◌≡◌, ◌==◌, ◌⊎◌, ◌&&◌, ℕ, List, codes, Bool, true, false, if◌then◌else◌, Option, Some, None, Result, Ok, Err, String}
use Rattle.std.specs.declared.alloc.Global.{Global}
use Rattle.std.specs.Io.KnownBytes.{Appends}
use Rattle.serde_json.specs.Data.{Data, boolean, object, Members, no_members, member}
use Rattle.serde_json.specs.Find.{get}
use Rattle.cdx_models.specs.declared.bom.SpecVersion.TheVariants.{V1_5}
use Rattle.cdx_models.specs.Trees.{Tree}
use Rattle.cdx_models.specs.Equal.{equal}
use Rattle.cdx_schema.specs.Kinds.{a_bill}
use Rattle.cdx_schema.specs.JsonSpelling.{jspell}
use Rattle.cdx_request.specs.Parts.{member_count}
use Rattle.cdx_request.specs.Refusals.{only, a_text, refusal_members, unbalanced_members}
use Rattle.cdx_request.specs.Requests.{Misread, not_json, shape, unbalanced, document_in_json}
use Rattle.cdx_request.specs.Replies.{Reply, line_of, reply, reply_to_misread}
use Rattle.cdx_tool.specs.Owed.{reply_by}
use Rattle.cdx_tool.specs.Asks.{Inquiry, inquiry_of, WhyNoBill, misread, bill_refused, bill_of, bill_in, reply_to_bill}
use Rattle.cdx_canon.specs.Canon.{plain}
use Rattle.cdx_canon.specs.Words.{command_of}
use Rattle.cdx_canon.specs.declared.words.Command.{Command}
use Rattle.cdx_canon.specs.declared.words.Command.TheVariants.{Text, Equal}

-- ---- `text`

-- The answer to a bill: the JSON spelling of its plain bill in 1.5, whose compact text is the canonical text.
abbrev pub canonical_answer : Tree → Data
canonical_answer b = jspell (plain b) V1_5 a_bill

-- ---- `equal`

-- Whether two bills have one plain bill, so that they are the same but for the label.
abbrev pub is_equal : Tree → Tree → Bool
is_equal b c = equal (plain b) (plain c)

abbrev pub equality_answer : Bool → Data
equality_answer b = only (codes "equal") (boolean b)

-- two values, each of which is to be a question about a bill
pub record Pair : Type 0 where
  pub left : Data
  pub right : Data

abbrev pub pair_parts : Option Data → Option Data → Option Pair
pair_parts (Some l) (Some r) = Some (record { left = l; right = r })
pair_parts (Some l) None = None
pair_parts None r = None

-- an object with `left` and `right`, and no other member
abbrev pub pair_of : Data → Option Pair
pair_of d = if member_count d == 2 then pair_parts (get (codes "left") d) (get (codes "right") d) else None

-- A refusal of one side: the refusal of its document, and the side as a second member.
abbrev pub refused_on : List ℕ → Members → Data
refused_on side ms = object (member (codes "refused") (object ms) (a_text (codes "side") side no_members))

-- What is replied to one side: what goes on from its bill, or why there is none. A value that is no question has no side.
abbrev pub reply_on : List ℕ → (Tree → Reply) → Result Tree WhyNoBill → Reply
reply_on side next (Ok b) = next b
reply_on side next (Err (bill_refused r)) = reply 1 (refused_on side (refusal_members r))
reply_on side next (Err (misread (unbalanced place))) = reply 1 (refused_on side (unbalanced_members place))
reply_on side next (Err (misread e)) = reply_to_misread e

-- to the right side, beside the left side's bill
abbrev pub reply_beside : Result Tree WhyNoBill → Tree → Reply
reply_beside right b = reply_on (codes "right") (λ c. reply 0 (equality_answer (is_equal b c))) right

-- The left side comes first: all that is refused of it comes before all that is refused of the right side.
abbrev pub reply_to_bills : Result Tree WhyNoBill → Result Tree WhyNoBill → Reply
reply_to_bills left right = reply_on (codes "left") (reply_beside right) left

abbrev pub is_shaped : Result Inquiry Misread → Bool
is_shaped (Err shape) = false
is_shaped _ = true

-- But the shape of both sides comes before anything else.
abbrev pub reply_to_sides : Result Inquiry Misread → Result Inquiry Misread → Reply
reply_to_sides left right = if is_shaped left && is_shaped right then reply_to_bills (bill_of left) (bill_of right) else reply_to_misread shape

abbrev pub reply_to_pair : Option Pair → Reply
reply_to_pair None = reply_to_misread shape
reply_to_pair (Some p) = reply_to_sides (inquiry_of p.left) (inquiry_of p.right)

-- ---- what is replied

-- to the value that the bytes are
abbrev pub reply_to_value : Command → Data → Reply
reply_to_value Text d = reply_to_bill canonical_answer (bill_in d)
reply_to_value Equal d = reply_to_pair (pair_of d)

abbrev pub reply_if_value : Command → Option Data → Reply
reply_if_value c None = reply_to_misread not_json
reply_if_value c (Some d) = reply_to_value c d

-- to bytes that are no more than the limit
abbrev pub owed : Command → List ℕ → Reply
owed c bytes = reply_if_value c (document_in_json bytes)

-- to these words and bytes
abbrev pub canonical_reply : List (String Global) → List ℕ → Reply
canonical_reply words bytes = reply_by owed (command_of words) bytes

-- ---- what status 0 says

-- The bytes are a question about two bills: b on the left and c on the right.
abbrev pub AsksForBoth : List ℕ → Tree → Tree → Type 0
AsksForBoth bytes b c = (d : Data) × (p : Pair) × (document_in_json bytes ≡ Some d) × (pair_of d ≡ Some p) × (bill_in p.left ≡ Ok b) × (bill_in p.right ≡ Ok c)

-- What is written tells whether the plain bills are equal.
abbrev pub TellsEqual : Option (List ℕ) → Option (List ℕ) → Tree → Tree → Type 0
TellsEqual before now b c =
    ((plain b ≡ plain c) × Appends before now (line_of (equality_answer true)))
    ⊎ ((plain b ≡ plain c → ⊥) × Appends before now (line_of (equality_answer false)))
