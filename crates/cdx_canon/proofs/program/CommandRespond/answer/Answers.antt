use Rattle.serde_json.specs.View.{view}
use Rattle.cdx_canon.specs.Answers.{pair_of}
use Rattle.cdx_tool.proofs.Statuses.{answer_settled}
use Rattle.cdx_canon.proofs.Replied.{pair_settled}
use Rattle.cdx_canon.proofs.program.CommandRespond.answer.Goals as goal

pub returns-in-Equal-clause-status : goal.returns-in-Equal-clause-status
returns-in-Equal-clause-status c = answer_settled c.answer_pair.result _ c.answer_pair.ensures (pair_settled (pair_of (view c.in-Some.value)))
