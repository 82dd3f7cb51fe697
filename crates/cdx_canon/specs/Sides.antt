-- What the calls of `equal` give, beside the reply that is owed.
use Rattle.std.specs.Prelude.{◌≡◌, Option, Some, None, Result, Ok, Err}
use Rattle.serde_json.specs.View.{view}
use Rattle.serde_json.specs.declared.value.Value.{Value}
use Rattle.cdx_request.specs.Requests.{Misread, shape, unbalanced}
use Rattle.cdx_tool.specs.Asks.{Inquiry, IsQuestion}
use Rattle.cdx_canon.specs.Answers.{Pair}
use Rattle.cdx_canon.specs.declared.comparing.Side.{Side}
use Rattle.cdx_canon.specs.declared.comparing.Side.TheVariants as side

-- two values beside those that they stand for
abbrev pub pair_view : Value × Value → Pair
pair_view p = record { left = view p.0; right = view p.1 }

-- The side is what is owed: a question, or one whose events break at this place.
abbrev pub IsSide : Result Inquiry Misread → Side → Type 0
IsSide owed (side.Question q) = (a : Inquiry) × (owed ≡ Ok a) × IsQuestion q a
IsSide owed (side.Unbalanced place) = owed ≡ Err (unbalanced place)

-- There is a side where the value has the shape of a question.
abbrev pub ReadsSide : Result Inquiry Misread → Option Side → Type 0
ReadsSide owed None = owed ≡ Err shape
ReadsSide owed (Some s) = IsSide owed s
