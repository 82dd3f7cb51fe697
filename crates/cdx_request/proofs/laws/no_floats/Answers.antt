use Rattle.cdx_request.proofs.AnswerFloats.{no_floats, refused_clear}
use Rattle.cdx_request.proofs.laws.no_floats.Goals as goal

pub returns : goal.returns
returns c = record { documents = no_floats; refused = refused_clear }
