use Rattle.std.proofs.Common.{codes, sym, ap}
use Rattle.cdx_tool.specs.Asks.{bill_of}
use Rattle.cdx_canon.specs.Answers.{reply_on, reply_beside}
use Rattle.cdx_canon.proofs.Replied.{answered_so}
use Rattle.cdx_canon.proofs.comparing.answer_sides.Goals as goal

pub answer_no_bill_on-requires : goal.answer_no_bill_on-requires
answer_no_bill_on-requires c = let l = c.requires.left in (bill_of l.0, c.in-Err.ensures l.0 l.1)

pub returns-in-Err : goal.returns-in-Err
returns-in-Err c = λ l r is_left is_right. c.answer_no_bill_on.ensures (bill_of l) (reply_beside (bill_of r)) (c.in-Err.ensures l is_left)

pub returns-in-Ok : goal.returns-in-Ok
returns-in-Ok c = λ l r is_left is_right. answered_so c.answer_right.result _ _ (c.answer_right.ensures r is_right) (ap (reply_on (codes "left") (reply_beside (bill_of r))) (sym (c.in-Ok.ensures l is_left)))
