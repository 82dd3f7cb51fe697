use Rattle.std.proofs.Common.{ap}
use Rattle.cdx_canon.specs.Answers.{reply_to_pair}
use Rattle.cdx_canon.proofs.Replied.{answered_so}
use Rattle.cdx_canon.proofs.comparing.answer_pair.Goals as goal

pub returns-in-None : goal.returns-in-None
returns-in-None c = answered_so c.refuse.result _ _ c.refuse.ensures (ap reply_to_pair c.in-None.ensures)

pub returns-in-Some : goal.returns-in-Some
returns-in-Some c = answered_so c.answer_both.result _ _ c.answer_both.ensures (ap reply_to_pair c.in-Some.ensures)
