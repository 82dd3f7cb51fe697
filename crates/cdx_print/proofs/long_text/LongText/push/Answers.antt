use Rattle.std.proofs.Common.{◌≡◌, ◌∙◌, ◌+◌, ◌++◌, length, ap, length-append, arith}
use Rattle.std.specs.List.{concat}
use Rattle.cdx_print.proofs.LongTexts.{one_more}
use Rattle.cdx_print.proofs.long_text.LongText.push.Goals as goal

pub invariant_of-self-2 : goal.invariant_of-self-2
invariant_of-self-2 c =
    let held = c.self.inside.pieces in
    let longer : length (concat c.push.new.self) ≡ length (concat held) + length c.args.piece = ap (λ ps. length (concat ps)) c.in_ok-push.ensures.ok ∙ ap length (one_more held c.args.piece) ∙ length-append (concat held) c.args.piece in
    let before : c.self.inside.len ≡ length (concat held) = c.self.invariant in
    let piece = ap length c.as_str.ensures in
    omega (arith, c.in-Some.ensures.1)

pub returns-clause-ok : goal.returns-clause-ok
returns-clause-ok c = ap concat c.in_ok-push.ensures.ok ∙ one_more c.self.inside.pieces c.args.piece ∙ ap (λ s. s ++ c.args.piece) c.self.view_is
