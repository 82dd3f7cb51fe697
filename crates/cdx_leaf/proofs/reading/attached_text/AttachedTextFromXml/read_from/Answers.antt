use Rattle.std.proofs.Common.{Ok, Err, refl, sym}
use Rattle.std.proofs.lemmas.Result.{err_from_is_err_and}
use Rattle.cdx_models.specs.Trees.{attached_text}
use Rattle.cdx_schema.specs.Table.{rows}
use Rattle.cdx_schema.specs.XmlReading.{exact_text, ended}
use Rattle.cdx_leaf.specs.Parts.{attached_start}
use Rattle.cdx_leaf.specs.RowContents.{content_from_rows}
use Rattle.cdx_leaf.proofs.Contents.{text_content, whole_content}
use Rattle.cdx_leaf.proofs.reading.attached_text.AttachedTextFromXml.read_from.Goals as goal

pub returns-in_err-start : goal.returns-in_err-start
unfolding rows ended
returns-in_err-start c =
    let q = err_from_is_err_and c.from_residual.result c.from_residual.ensures.1 in
    rw (q.1, q.2) (whole_content attached_text 2 (λ nodes el q. exact_text nodes el q) (text_content attached_text 2 (content_from_rows attached_text)) refl attached_start c.args.opened.now.version c.args.opened.now.element.now c.args.opened.now.attributes.now c.args.reader.now c.read_exact_content.new.reader c.place.result c.begin_attached_text-begun.result (Err c.in_err-start.field-0.0)
    (λ x s q. refl) (sym c.place.ensures) c.begin_attached_text-begun.ensures c.in_err-start.ensures)

pub returns : goal.returns
unfolding rows ended
returns c =
    whole_content attached_text 2 (λ nodes el q. exact_text nodes el q) (text_content attached_text 2 (content_from_rows attached_text)) refl attached_start c.args.opened.now.version c.args.opened.now.element.now c.args.opened.now.attributes.now c.args.reader.now c.read_exact_content.new.reader c.place.result c.begin_attached_text-begun.result (Ok (c.in_ok-start.start, c.in_ok-start.content))
    (λ x s q. refl) (sym c.place.ensures) c.begin_attached_text-begun.ensures c.in_ok-start.ensures
