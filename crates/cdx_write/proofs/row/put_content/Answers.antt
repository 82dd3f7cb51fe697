use Rattle.std.proofs.Common.{[], ◌∷◌, ap, ◌∙◌}
use Rattle.cdx_events.specs.declared.event.XmlEvent.TheVariants.{Characters}
use Rattle.cdx_models.specs.Trees.{text}
use Rattle.cdx_schema.specs.Kinds.{a_text}
use Rattle.cdx_write.specs.Spelling.{inner}
use Rattle.cdx_write.proofs.RowWords.{appends_same, text_inner}
use Rattle.cdx_write.proofs.row.put_content.Goals as goal

pub returns : goal.returns
returns c = λ w. appends_same c.args.writer.now c.write_characters.new.writer (Characters c.as_str.result.now ∷ []) (inner (text c.args.held.now) w a_text) c.write_characters.result
    (ap (λ s. Characters s ∷ []) c.as_str.ensures ∙ text_inner c.args.held.now w) c.write_characters.ensures
