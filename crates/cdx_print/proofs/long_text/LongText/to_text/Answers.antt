use Rattle.std.proofs.Common.{◌∙◌, ◌++◌, take, ap, sym}
use Rattle.std.specs.List.{concat}
use Rattle.cdx_print.proofs.LongTexts.{up_to_next}
use Rattle.cdx_print.proofs.long_text.LongText.to_text.Goals as goal

pub loop-piece-preserved : goal.loop-piece-preserved
loop-piece-preserved c =
    let pieces = c.as_slice-piece-items.result.now in
    let at = c.loop-piece.piece-index in
    c.in_ok-push_str.ensures.bytes
    ∙ ap (λ s. s ++ c.as_str.result.now) c.loop-piece.invariant
    ∙ ap (λ s. concat (take at pieces) ++ s) (c.as_str.ensures ∙ c.piece-item.is)
    ∙ sym (up_to_next pieces at c.piece-item.result c.loop-piece-test.true)
