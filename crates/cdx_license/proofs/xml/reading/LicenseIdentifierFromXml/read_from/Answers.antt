use Rattle.std.proofs.Common.{Ok, Err, refl, sym, ◌-◌, subst}
use Rattle.std.specs.Prelude.{codes}
use Rattle.std.proofs.lemmas.Result.{err_from_is_err_and}
use Rattle.cdx_models.specs.Trees.{spdx_id, license_name, Trees, more, none, absent}
use Rattle.cdx_schema.specs.Faults.{lacking}
use Rattle.cdx_schema.specs.Table.{rows}
use Rattle.cdx_schema.specs.XmlReading.{exact_text, ended}
use Rattle.cdx_leaf.specs.Fault.{Refused}
use Rattle.cdx_leaf.specs.Reading.{behind_end}
use Rattle.cdx_license.specs.Records.{identifier_tree}
use Rattle.cdx_leaf.specs.RowContents.{content_from_rows}
use Rattle.cdx_leaf.proofs.Attributes.{row_ok, rows_end}
use Rattle.cdx_leaf.proofs.Contents.{text_content, whole_content}
use Rattle.cdx_license.proofs.Identifiers.{identifier_id, identifier_name, identifier_none}
use Rattle.cdx_leaf.proofs.Loop.{refused_near}
use Rattle.cdx_leaf.proofs.Whole.{start_is, start_near}
use Rattle.cdx_license.proofs.xml.reading.LicenseIdentifierFromXml.read_from.Goals as goal

abbrev alone : Unit {0} → Trees
alone u = more absent none

pub returns-in_err-id : goal.returns-in_err-id
unfolding rows ended
returns-in_err-id c = λ d ns p nodes rest st.
    let q = err_from_is_err_and c.from_residual.result c.from_residual.ensures.1 in
    rw (q.1, q.2, identifier_id c.args.opened.now.version c.args.opened.now.element.now c.args.opened.now.attributes.now ns d p nodes c.if-is.ensures) (whole_content spdx_id 0 (λ nodes el q. exact_text nodes el q) (text_content spdx_id 0 (content_from_rows spdx_id)) refl alone c.args.opened.now.version c.args.opened.now.element.now c.args.opened.now.attributes.now c.args.reader.now c.read_exact_content.new.reader c.args.reader.now.place (Ok (record {})) (Err c.in_err-id.field-0.0) (λ x s q. refl) refl (row_ok c.args.opened.now.attributes.now c.args.opened.now.version c.args.opened.now.element.now.local_name (c.args.reader.now.place - 1) _ _ _ _ refl (rows_end c.args.opened.now.attributes.now c.args.opened.now.version c.args.opened.now.element.now.local_name (c.args.reader.now.place - 1))) c.in_err-id.ensures d ns p nodes rest st)

pub returns-then-is : goal.returns-then-is
unfolding rows ended
returns-then-is c = λ d ns p nodes rest st.
    rw (identifier_id c.args.opened.now.version c.args.opened.now.element.now c.args.opened.now.attributes.now ns d p nodes c.if-is.ensures) (whole_content spdx_id 0 (λ nodes el q. exact_text nodes el q) (text_content spdx_id 0 (content_from_rows spdx_id)) refl alone c.args.opened.now.version c.args.opened.now.element.now c.args.opened.now.attributes.now c.args.reader.now c.read_exact_content.new.reader c.args.reader.now.place (Ok (record {})) (Ok (c.in_ok-id.field-0-0, c.in_ok-id.id)) (λ x s q. refl) refl (row_ok c.args.opened.now.attributes.now c.args.opened.now.version c.args.opened.now.element.now.local_name (c.args.reader.now.place - 1) _ _ _ _ refl (rows_end c.args.opened.now.attributes.now c.args.opened.now.version c.args.opened.now.element.now.local_name (c.args.reader.now.place - 1))) c.in_ok-id.ensures d ns p nodes rest st)

pub returns-in_err-name : goal.returns-in_err-name
unfolding rows ended
returns-in_err-name c = λ d ns p nodes rest st.
    let q = err_from_is_err_and c.from_residual-in_err-name.result c.from_residual-in_err-name.ensures.1 in
    rw (q.1, q.2, identifier_name c.args.opened.now.version c.args.opened.now.element.now c.args.opened.now.attributes.now ns d p nodes c.if-is.ensures c.if-is-2.ensures) (whole_content license_name 0 (λ nodes el q. exact_text nodes el q) (text_content license_name 0 (content_from_rows license_name)) refl alone c.args.opened.now.version c.args.opened.now.element.now c.args.opened.now.attributes.now c.args.reader.now c.read_exact_content-then-is-2.new.reader c.args.reader.now.place (Ok (record {})) (Err c.in_err-name.field-0.0) (λ x s q. refl) refl (row_ok c.args.opened.now.attributes.now c.args.opened.now.version c.args.opened.now.element.now.local_name (c.args.reader.now.place - 1) _ _ _ _ refl (rows_end c.args.opened.now.attributes.now c.args.opened.now.version c.args.opened.now.element.now.local_name (c.args.reader.now.place - 1))) c.in_err-name.ensures d ns p nodes rest st)

pub returns-then-is-2 : goal.returns-then-is-2
unfolding rows ended
returns-then-is-2 c = λ d ns p nodes rest st.
    rw (identifier_name c.args.opened.now.version c.args.opened.now.element.now c.args.opened.now.attributes.now ns d p nodes c.if-is.ensures c.if-is-2.ensures) (whole_content license_name 0 (λ nodes el q. exact_text nodes el q) (text_content license_name 0 (content_from_rows license_name)) refl alone c.args.opened.now.version c.args.opened.now.element.now c.args.opened.now.attributes.now c.args.reader.now c.read_exact_content-then-is-2.new.reader c.args.reader.now.place (Ok (record {})) (Ok (c.in_ok-name.field-0-0, c.in_ok-name.name)) (λ x s q. refl) refl (row_ok c.args.opened.now.attributes.now c.args.opened.now.version c.args.opened.now.element.now.local_name (c.args.reader.now.place - 1) _ _ _ _ refl (rows_end c.args.opened.now.attributes.now c.args.opened.now.version c.args.opened.now.element.now.local_name (c.args.reader.now.place - 1))) c.in_ok-name.ensures d ns p nodes rest st)

pub returns : goal.returns
returns c = λ d ns p nodes rest st.
    let near = start_near c.args.reader.now.place p st.place in
    let fault = lacking p c.args.opened.now.element.now.local_name (codes "id or name") in
    refused_near identifier_tree c.args.reader.now c.args.reader.now (behind_end c.args.reader.now nodes rest) _ c.refuse_missing.result fault
    (subst (λ x. Refused c.refuse_missing.result (lacking x c.args.opened.now.element.now.local_name (codes "id or name"))) (start_is c.args.reader.now.place c.place.result p (sym c.place.ensures) st.place) c.refuse_missing.ensures) near.0 near.1 (identifier_none c.args.opened.now.version c.args.opened.now.element.now c.args.opened.now.attributes.now ns d p nodes c.if-is.ensures c.if-is-2.ensures)
