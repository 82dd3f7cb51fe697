use Rattle.std.proofs.Common.{◌≡◌, Ok, refl}
use Rattle.std.proofs.lemmas.Result.{err_from_is_err_and}
use Rattle.cdx_models.specs.Trees.{two, absent}
use Rattle.cdx_schema.specs.XmlReading.{data_plan}
use Rattle.cdx_leaf.specs.Trees.{collected}
use Rattle.cdx_service_data.specs.Records.{classification_tree, service_entry}
use Rattle.cdx_service_data.proofs.Flows.{data_fails, data_classified, data_flows}
use Rattle.cdx_service_data.proofs.xml.reading.DataFromXml.read_from.Goals as goal

pub returns-in_err-part : goal.returns-in_err-part
returns-in_err-part c = λ d ns p nodes rest st.
    let q = err_from_is_err_and c.from_residual.result c.from_residual.ensures.1 in
    let begun : Ok (two absent absent) ≡ Ok (two (collected classification_tree c.new.result) (collected service_entry c.new-2.result)) = rw (c.new.ensures, c.new-2.ensures) refl in
    let read = c.in_err-part.ensures d (λ d. d) data_plan (Ok (two absent absent)) p nodes rest st (begun, refl, refl) in
    rw (q.1, q.2) (read.0, data_fails c.args.opened.now.version c.args.opened.now.element.now c.args.opened.now.attributes.now ns d p nodes c.in_err-part.field-0.0 c.read_record.new.reader.place read.1)

pub returns-then-len-eq0 : goal.returns-then-len-eq0
returns-then-len-eq0 c = λ d ns p nodes rest st.
    let begun : Ok (two absent absent) ≡ Ok (two (collected classification_tree c.new.result) (collected service_entry c.new-2.result)) = rw (c.new.ensures, c.new-2.ensures) refl in
    let read = c.in_ok-part.ensures d (λ d. d) data_plan (Ok (two absent absent)) p nodes rest st (begun, refl, refl) in
    (data_classified c.args.opened.now.version c.args.opened.now.element.now c.args.opened.now.attributes.now ns d p nodes c.in_ok-part.part c.len.result c.len.ensures c.if-len-eq0.true read.0, read.1)

pub returns : goal.returns
returns c = λ d ns p nodes rest st.
    let begun : Ok (two absent absent) ≡ Ok (two (collected classification_tree c.new.result) (collected service_entry c.new-2.result)) = rw (c.new.ensures, c.new-2.ensures) refl in
    let read = c.in_ok-part.ensures d (λ d. d) data_plan (Ok (two absent absent)) p nodes rest st (begun, refl, refl) in
    (data_flows c.args.opened.now.version c.args.opened.now.element.now c.args.opened.now.attributes.now ns d p nodes c.in_ok-part.part c.len.result c.len.ensures c.if-len-eq0.false read.0, read.1)
