use Rattle.std.proofs.Common.{[], ◌∷◌, ◌++◌, ap, ◌∙◌}
use Rattle.cdx_events.specs.declared.event.XmlEvent.TheVariants.{CData}
use Rattle.cdx_write.proofs.RowWords.{text_cdata}
use Rattle.cdx_write.proofs.row.put_cdata.Goals as goal

pub returns : goal.returns
returns c = λ w. c.in_ok-write.ensures.ok ∙ ap (λ s. c.args.writer.now ++ s) (ap (λ s. CData s ∷ []) c.in_ok-copy.ensures ∙ text_cdata c.args.held.now w)
