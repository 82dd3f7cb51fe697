use Rattle.std.proofs.Common.{Ok, Err, refl, sym, ap, ◌∙◌}
use Rattle.std.proofs.lemmas.Result.{err_from_is_err_and}
use Rattle.cdx_models.specs.Trees.{more, signer, present, fields_of}
use Rattle.cdx_schema.specs.Depth.{top}
use Rattle.cdx_schema.specs.XmlReading.{signature_plan}
use Rattle.cdx_signature.specs.Records.{signature_tree, signer_tree}
use Rattle.cdx_signature.specs.Parts.{signer_part}
use Rattle.cdx_signature.proofs.Signatures.{nothing_yet, signature_fails, signature_listed, signature_single}
use Rattle.cdx_leaf.proofs.Whole.{past_start, finished_as}
use Rattle.cdx_signature.proofs.xml.reading.SignatureFromXml.read_from.Goals as goal

pub returns-in_err-part : goal.returns-in_err-part
returns-in_err-part c = λ d ns p nodes rest st.
    let q = err_from_is_err_and c.from_residual.result c.from_residual.ensures.1 in
    let read = c.in_err-part.ensures d (λ d. d) signature_plan (Ok nothing_yet) p nodes rest st (refl, refl, refl) in
    rw (q.1, q.2) (read.0, signature_fails c.args.opened.now.version c.args.opened.now.element.now c.args.opened.now.attributes.now ns d p nodes c.in_err-part.field-0.0 c.read_record.new.reader.place read.1)

pub returns-in-Some : goal.returns-in-Some
returns-in-Some c = λ d ns p nodes rest st.
    let read = c.in_ok-part.ensures d (λ d. d) signature_plan (Ok nothing_yet) p nodes rest st (refl, refl, refl) in
    (signature_listed c.args.opened.now.version c.args.opened.now.element.now c.args.opened.now.attributes.now ns d p nodes c.in-Some.list c.in_ok-part.part.signer (read.0 ∙ ap (λ o. Ok (more (present signature_tree o) (signer_part c.in_ok-part.part.signer))) c.in-Some.is), read.1)

pub overflow_sub-place : goal.overflow_sub-place
overflow_sub-place c =
    let r = c.requires in
    let read = c.in_ok-part.ensures top (λ d. d) signature_plan (Ok nothing_yet) r.p r.nodes r.rest r.stands (refl, refl, refl) in
    past_start c.args.reader.now c.read_record.new.reader c.place.result r.nodes r.rest read.1 c.place.ensures

pub returns-in_err-single-in-None : goal.returns-in_err-single-in-None
returns-in_err-single-in-None c = λ d ns p nodes rest st.
    let q = err_from_is_err_and c.from_residual-in_err-single-in-None.result c.from_residual-in_err-single-in-None.ensures.1 in
    let read = c.in_ok-part.ensures d (λ d. d) signature_plan (Ok nothing_yet) p nodes rest st (refl, refl, refl) in
    let old = c.args.reader.now in
    let new = c.read_record.new.reader in
    let is = signature_single c.args.opened.now.version c.args.opened.now.element.now c.args.opened.now.attributes.now ns d p nodes c.in_ok-part.part.signer (read.0 ∙ ap (λ o. Ok (more (present signature_tree o) (signer_part c.in_ok-part.part.signer))) c.in-None.is) in
    rw (q.1, q.2, is) (finished_as (λ s. fields_of (signer_tree s)) signer c.args.opened.now.version c.args.opened.now.element.now p nodes rest old new c.place.result (signer_part c.in_ok-part.part.signer) (Err c.in_err-single-in-None.field-0.0) st read.1 (sym c.place.ensures) c.in_err-single-in-None.ensures)

pub returns-in_ok-single-in-None : goal.returns-in_ok-single-in-None
returns-in_ok-single-in-None c = λ d ns p nodes rest st.
    let read = c.in_ok-part.ensures d (λ d. d) signature_plan (Ok nothing_yet) p nodes rest st (refl, refl, refl) in
    let old = c.args.reader.now in
    let new = c.read_record.new.reader in
    let is = signature_single c.args.opened.now.version c.args.opened.now.element.now c.args.opened.now.attributes.now ns d p nodes c.in_ok-part.part.signer (read.0 ∙ ap (λ o. Ok (more (present signature_tree o) (signer_part c.in_ok-part.part.signer))) c.in-None.is) in
    rw is (finished_as (λ s. fields_of (signer_tree s)) signer c.args.opened.now.version c.args.opened.now.element.now p nodes rest old new c.place.result (signer_part c.in_ok-part.part.signer) (Ok c.in_ok-single-in-None.single) st read.1 (sym c.place.ensures) c.in_ok-single-in-None.ensures)
