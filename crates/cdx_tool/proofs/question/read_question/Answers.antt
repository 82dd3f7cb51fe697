use Rattle.std.proofs.Common.{refl, sym, ap, ◌∙◌}
use Rattle.cdx_tool.specs.Asks.{inquiring}
use Rattle.cdx_tool.proofs.question.read_question.Goals as goal

pub returns : goal.returns
returns c =
    let d = c.in_ok-doc.ensures in
    (record { from = c.in-Some.from; doc = d.0 }, sym c.in-Some.ensures ∙ ap (inquiring c.in-Some.from) d.1, (refl, d.2))
