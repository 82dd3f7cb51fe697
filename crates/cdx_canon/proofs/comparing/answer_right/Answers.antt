use Rattle.std.proofs.Common.{sym, ap}
use Rattle.cdx_bom.specs.Trees.{bom_tree}
use Rattle.cdx_tool.specs.Asks.{bill_of}
use Rattle.cdx_canon.specs.Answers.{reply_beside}
use Rattle.cdx_canon.proofs.Replied.{answered_so, told}
use Rattle.cdx_canon.proofs.comparing.answer_right.Goals as goal

pub answer_no_bill_on-requires : goal.answer_no_bill_on-requires
answer_no_bill_on-requires c = (bill_of c.requires.0, c.in-Err.ensures c.requires.0 c.requires.1)

pub returns-in-Err : goal.returns-in-Err
returns-in-Err c = λ r is. c.answer_no_bill_on.ensures (bill_of r) (told (bom_tree c.args.left)) (c.in-Err.ensures r is)

pub returns-in-Ok : goal.returns-in-Ok
returns-in-Ok c = λ r is. answered_so c.answer_equal.result _ _ c.answer_equal.ensures (ap (λ o. reply_beside o (bom_tree c.args.left)) (sym (c.in-Ok.ensures r is)))
