use Rattle.std.proofs.Common.{Ok, refl, sym, ap}
use Rattle.std.proofs.lemmas.Result.{err_from_is_err_and}
use Rattle.cdx_models.specs.Trees.{one, absent}
use Rattle.cdx_license.specs.Records.{choice_tree}
use Rattle.cdx_schema.specs.Kinds.{licenses}
use Rattle.cdx_schema.specs.XmlReading.{choice_plan}
use Rattle.cdx_leaf.specs.Trees.{collected}
use Rattle.cdx_leaf.proofs.Parts.{items_are, items_fail, licenses_read}
use Rattle.cdx_license.proofs.xml.reading.LicensesFromXml.read_from.Goals as goal

pub returns-in_err-part : goal.returns-in_err-part
returns-in_err-part c = λ d ns p nodes rest st.
    let q = err_from_is_err_and c.from_residual.result c.from_residual.ensures.1 in
    let el = c.args.opened.now.element.now.local_name in
    let read = c.in_err-part.ensures d (λ d. d) (choice_plan licenses) (Ok (one absent)) p nodes rest st (ap (λ l. Ok (one (collected choice_tree l))) (sym c.new.ensures), refl, refl) in
    rw (q.1, q.2, licenses_read c.args.opened.now.version c.args.opened.now.element.now c.args.opened.now.attributes.now ns d p nodes) (read.0, items_fail c.in_err-part.field-0.0 c.read_record.new.reader.place (choice_plan licenses) el c.args.opened.now.version d p nodes read.1)

pub returns : goal.returns
returns c = λ d ns p nodes rest st.
    let el = c.args.opened.now.element.now.local_name in
    let read = c.in_ok-part.ensures d (λ d. d) (choice_plan licenses) (Ok (one absent)) p nodes rest st (ap (λ l. Ok (one (collected choice_tree l))) (sym c.new.ensures), refl, refl) in
    rw (licenses_read c.args.opened.now.version c.args.opened.now.element.now c.args.opened.now.attributes.now ns d p nodes) (items_are choice_tree c.in_ok-part.part.items (choice_plan licenses) el c.args.opened.now.version d p nodes read.0, read.1)
