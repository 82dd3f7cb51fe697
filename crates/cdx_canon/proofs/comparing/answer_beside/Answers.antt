use Rattle.std.proofs.Common.{subst}
use Rattle.serde_json.specs.View.{view}
use Rattle.cdx_tool.specs.Asks.{inquiry_of}
use Rattle.cdx_canon.specs.Sides.{ReadsSide}
use Rattle.cdx_canon.proofs.Replied.{answered_so, sides_shaped, shapeless_right}
use Rattle.cdx_canon.proofs.comparing.answer_beside.Goals as goal

pub returns-in-None : goal.returns-in-None
returns-in-None c =
    let owed = inquiry_of (view c.args.right) in
    λ l is. answered_so c.refuse.result _ _ c.refuse.ensures (shapeless_right l owed (subst (ReadsSide owed) c.in-None.is c.in_ok-right.ensures))

pub answer_sides-requires-clause-right : goal.answer_sides-requires-clause-right
answer_sides-requires-clause-right c =
    let owed = inquiry_of (view c.args.right) in
    (owed, subst (ReadsSide owed) c.in-Some.is c.in_ok-right.ensures)

pub returns-in-Some : goal.returns-in-Some
returns-in-Some c =
    let owed = inquiry_of (view c.args.right) in
    let right = subst (ReadsSide owed) c.in-Some.is c.in_ok-right.ensures in
    λ l is. answered_so c.answer_sides.result _ _ (c.answer_sides.ensures l owed is right) (sides_shaped l owed c.args.left c.in-Some.right is right)
