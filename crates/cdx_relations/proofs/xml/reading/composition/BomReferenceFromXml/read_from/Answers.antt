use Rattle.std.proofs.Common.{◌≡◌, Ok, suc, refl, sym, ap, ◌∙◌, subst}
use Rattle.std.specs.Prelude.{codes}
use Rattle.std.proofs.lemmas.Result.{err_from_is_err_and}
use Rattle.cdx_models.specs.Trees.{text}
use Rattle.cdx_schema.specs.Faults.{lacking}
use Rattle.cdx_schema.specs.Results.{◌>>=◌}
use Rattle.cdx_schema.specs.XmlReading.{find_attribute, after_text}
use Rattle.cdx_leaf.specs.Attribute.{or_fault}
use Rattle.cdx_leaf.specs.Fault.{FailsAt}
use Rattle.cdx_relations.proofs.References.{reference_is, start_fails, start_gives}
use Rattle.cdx_leaf.proofs.Loop.{fails_along}
use Rattle.cdx_leaf.proofs.Records.{first_fails, then_fails}
use Rattle.cdx_leaf.proofs.Simple.{closing_with, closing_fault}
use Rattle.cdx_leaf.proofs.Whole.{start_near}
use Rattle.cdx_relations.proofs.xml.reading.composition.BomReferenceFromXml.read_from.Goals as goal

pub returns-in_err-text : goal.returns-in_err-text
returns-in_err-text c = λ d ns p nodes rest st.
    let q = err_from_is_err_and c.from_residual.result c.from_residual.ensures.1 in
    let e = c.in_err-text.field-0.0 in
    let old = c.args.reader.now in
    let el = c.args.opened.now.element.now.local_name in
    let o = find_attribute (codes "ref") c.args.opened.now.attributes.now in
    rw (q.1, q.2, reference_is c.args.opened.now.version c.args.opened.now.element.now c.args.opened.now.attributes.now ns d p nodes o refl) ((start_near old.place p st.place).0, first_fails e old.place (or_fault o (lacking p el (codes "ref"))) (λ s. after_text s nodes el (suc p) >>= λ t. Ok (text t)) (start_fails e old.place c.place.result p o el (codes "ref") (sym c.place.ensures) st.place c.in_err-text.ensures))

pub returns-in_err-closing_tag_or_error : goal.returns-in_err-closing_tag_or_error
returns-in_err-closing_tag_or_error c = λ d ns p nodes rest st.
    let q = err_from_is_err_and c.from_residual-in_err-closing_tag_or_error.result c.from_residual-in_err-closing_tag_or_error.ensures.1 in
    let e = c.in_err-closing_tag_or_error.field-0.0 in
    let old = c.args.reader.now in
    let new = c.closing_tag_or_error.new.reader in
    let el = c.args.opened.now.element.now.local_name in
    let o = find_attribute (codes "ref") c.args.opened.now.attributes.now in
    let s = c.in_ok-text.text in
    let read = c.in_err-closing_tag_or_error.ensures nodes rest st.at in
    let closes : FailsAt e new.place (after_text s nodes el (suc p)) = subst (λ x. FailsAt e new.place (after_text s nodes el x)) st.place (fails_along e new.place (after_text (record {}) nodes el old.place) (after_text s nodes el old.place) (λ f is. closing_fault el (record {}) s old.place nodes f is) read.1) in
    rw (q.1, q.2, reference_is c.args.opened.now.version c.args.opened.now.element.now c.args.opened.now.attributes.now ns d p nodes o refl) (read.0, then_fails e new.place (or_fault o (lacking p el (codes "ref"))) s (λ s. after_text s nodes el (suc p) >>= λ t. Ok (text t)) (start_gives old.place c.place.result p o el (codes "ref") s (sym c.place.ensures) st.place c.in_ok-text.ensures) (first_fails e new.place (after_text s nodes el (suc p)) (λ t. Ok (text t)) closes))

pub returns : goal.returns
returns c = λ d ns p nodes rest st.
    let old = c.args.reader.now in
    let el = c.args.opened.now.element.now.local_name in
    let o = find_attribute (codes "ref") c.args.opened.now.attributes.now in
    let s = c.in_ok-text.text in
    let read = c.in_ok-closing_tag_or_error.ensures nodes rest st.at in
    let closed = subst (λ x. after_text s nodes el x ≡ Ok s) st.place (closing_with el _ s old.place nodes read.0) in
    (reference_is c.args.opened.now.version c.args.opened.now.element.now c.args.opened.now.attributes.now ns d p nodes o refl ∙ ap (λ x. x >>= λ s. after_text s nodes el (suc p) >>= λ t. Ok (text t)) (start_gives old.place c.place.result p o el (codes "ref") s (sym c.place.ensures) st.place c.in_ok-text.ensures) ∙ ap (λ x. x >>= λ t. Ok (text t)) closed, read.1)
