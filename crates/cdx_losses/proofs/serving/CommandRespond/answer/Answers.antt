use Rattle.cdx_losses.proofs.Reported.{settled}
use Rattle.cdx_losses.proofs.serving.CommandRespond.answer.Goals as goal

pub returns-clause-status : goal.returns-clause-status
returns-clause-status c = settled c.args.bytes c.answer_bytes.result c.answer_bytes.ensures
