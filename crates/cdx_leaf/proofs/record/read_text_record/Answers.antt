use Rattle.std.proofs.Common.{Ok, Err, sym, ap, ◌∙◌}
use Rattle.std.proofs.lemmas.Result.{err_from_is_err_and}
use Rattle.cdx_schema.specs.XmlReading.{simple_text}
use Rattle.cdx_leaf.proofs.Contents.{any_content, whole_content}
use Rattle.cdx_leaf.proofs.record.read_text_record.Goals as goal

pub returns-in_err-start : goal.returns-in_err-start
returns-in_err-start g c = λ d ns p nodes rest st.
    let q = err_from_is_err_and c.from_residual.result c.from_residual.ensures.1 in
    let r = g.X.TextRecord in
    let name = g.X.Record.name in
    let content = any_content name r.at g.met.X.TextRecord.content in
    let laws = g.met.X.TextRecord in
    rw (q.1, q.2) (whole_content name r.at (λ nodes el q. simple_text nodes el q) content g.X.Record.plain r.start c.args.opened.now.version c.args.opened.now.element.now c.args.opened.now.attributes.now c.args.reader.now c.read_content.new.reader c.place.result c.begin-begun.result (Err c.in_err-start.field-0.0)
    (λ x s q. laws.whole x s c.args.opened.now.version c.args.opened.now.element.now.local_name q) (sym c.place.ensures) c.begin-begun.ensures c.in_err-start.ensures d ns p nodes rest st)

pub returns : goal.returns
returns g c = λ d ns p nodes rest st.
    let r = g.X.TextRecord in
    let name = g.X.Record.name in
    let content = any_content name r.at g.met.X.TextRecord.content in
    let laws = g.met.X.TextRecord in
    let read = whole_content name r.at (λ nodes el q. simple_text nodes el q) content g.X.Record.plain r.start c.args.opened.now.version c.args.opened.now.element.now c.args.opened.now.attributes.now c.args.reader.now c.read_content.new.reader c.place.result c.begin-begun.result (Ok (c.in_ok-start.start, c.in_ok-start.content))
    (λ x s q. laws.whole x s c.args.opened.now.version c.args.opened.now.element.now.local_name q) (sym c.place.ensures) c.begin-begun.ensures c.in_ok-start.ensures d ns p nodes rest st in
    (read.0 ∙ ap (λ t. Ok t) (sym c.with_text.ensures), read.1)
