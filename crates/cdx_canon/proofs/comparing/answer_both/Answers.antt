use Rattle.std.proofs.Common.{subst}
use Rattle.serde_json.specs.View.{view}
use Rattle.cdx_tool.specs.Asks.{inquiry_of}
use Rattle.cdx_canon.specs.Sides.{ReadsSide}
use Rattle.cdx_canon.proofs.Replied.{answered_so, shapeless_left}
use Rattle.cdx_canon.proofs.comparing.answer_both.Goals as goal

pub returns-in-None : goal.returns-in-None
returns-in-None c =
    let owed = inquiry_of (view c.args.left) in
    answered_so c.refuse.result _ _ c.refuse.ensures (shapeless_left owed (inquiry_of (view c.args.right)) (subst (ReadsSide owed) c.in-None.is c.in_ok-left.ensures))

pub answer_beside-requires : goal.answer_beside-requires
answer_beside-requires c =
    let owed = inquiry_of (view c.args.left) in
    (owed, subst (ReadsSide owed) c.in-Some.is c.in_ok-left.ensures)

pub returns-in-Some : goal.returns-in-Some
returns-in-Some c =
    let owed = inquiry_of (view c.args.left) in
    c.answer_beside.ensures owed (subst (ReadsSide owed) c.in-Some.is c.in_ok-left.ensures)
