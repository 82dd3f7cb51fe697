use Rattle.std.proofs.Common.{ap, sym}
use Rattle.serde_json.specs.View.{view}
use Rattle.cdx_tool.specs.Asks.{bill_in, reply_to_bill}
use Rattle.cdx_canon.specs.Answers.{canonical_answer}
use Rattle.cdx_canon.proofs.Replied.{answered_so}
use Rattle.cdx_canon.proofs.program.answer_text.Goals as goal

pub answer_no_bill-requires : goal.answer_no_bill-requires
answer_no_bill-requires c = (bill_in (view c.args.value), c.in-Err.ensures)

pub returns-in-Ok : goal.returns-in-Ok
returns-in-Ok c = answered_so c.answer_bill.result _ _ c.answer_bill.ensures (ap (reply_to_bill canonical_answer) (sym c.in-Ok.ensures))

pub returns-in-Err : goal.returns-in-Err
returns-in-Err c = c.answer_no_bill.ensures (bill_in (view c.args.value)) canonical_answer c.in-Err.ensures
