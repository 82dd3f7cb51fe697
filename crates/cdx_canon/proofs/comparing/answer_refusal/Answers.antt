use Rattle.std.proofs.Common.{codes, ap₂, ◌∙◌}
use Rattle.cdx_canon.specs.Answers.{refused_on}
use Rattle.cdx_canon.specs.Plain.{with_part}
use Rattle.cdx_canon.proofs.Replied.{answered, sided, sided_clear}
use Rattle.cdx_canon.proofs.comparing.answer_refusal.Goals as goal

pub returns : goal.returns
returns c =
    let side = c.args.side.now in
    λ ms is clear.
    answered c.answer_value.result 1 _ (refused_on side ms) c.answer_value.ensures
    (c.in_ok-value.ensures ∙ (ap₂ (with_part (codes "side")) c.in_ok-name.ensures is ∙ sided side ms)) (sided_clear side ms clear)
