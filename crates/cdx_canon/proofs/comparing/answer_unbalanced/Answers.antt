use Rattle.std.proofs.Common.{refl}
use Rattle.cdx_request.specs.Refusals.{unbalanced_members}
use Rattle.cdx_canon.proofs.comparing.answer_unbalanced.Goals as goal

pub returns : goal.returns
returns c = c.answer_refusal.ensures (unbalanced_members c.args.place) c.in_ok-refusal.ensures refl
