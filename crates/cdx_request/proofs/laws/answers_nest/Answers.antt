use Rattle.cdx_request.proofs.AnswerDepth.{answers_nest}
use Rattle.cdx_request.proofs.laws.answers_nest.Goals as goal

pub returns : goal.returns
returns c = answers_nest
