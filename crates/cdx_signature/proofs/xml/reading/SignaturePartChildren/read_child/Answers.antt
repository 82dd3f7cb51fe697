use Rattle.std.proofs.Common.{refl, sym, ◌∙◌, Ok, Err}
use Rattle.std.specs.Prelude.{codes}
use Rattle.std.proofs.lemmas.Result.{err_from_is_err_and}
use Rattle.cdx_signature.specs.Records.{signature_tree}
use Rattle.cdx_models.specs.Trees.{field}
use Rattle.cdx_signature.specs.declared.signature.Signature.TheVariants as signature
use Rattle.cdx_schema.specs.XmlReading.{signature_plan}
use Rattle.cdx_leaf.specs.declared.taken.Taken.TheVariants.{Read}
use Rattle.cdx_signature.specs.Parts.{signature_part}
use Rattle.cdx_leaf.proofs.ChildSteps.{takes_one, takes_none, differs}
use Rattle.cdx_signature.proofs.Signatures.{reads_signers, reads_chain}
use Rattle.cdx_signature.proofs.xml.reading.SignaturePartChildren.read_child.Goals as goal

pub returns-in-algorithm-clause-takes : goal.returns-in-algorithm-clause-takes
returns-in-algorithm-clause-takes c =
    takes_one signature_plan c.args.opened.now.version c.args.opened.now.element.now c.args.opened.now.attributes.now (signature_part c.args.self.now) _ c.args.reader.now c.take_one.new.reader _ (λ d. d) _ c.take_one.result (sym c.as_str.ensures ∙ c.in-algorithm.is) refl refl refl c.take_one.ensures

pub returns-in-value-clause-takes : goal.returns-in-value-clause-takes
returns-in-value-clause-takes c =
    takes_one signature_plan c.args.opened.now.version c.args.opened.now.element.now c.args.opened.now.attributes.now (signature_part c.args.self.now) _ c.args.reader.now c.take_one-in-value.new.reader _ (λ d. d) _ c.take_one-in-value.result (sym c.as_str.ensures ∙ c.in-value.is) refl refl refl c.take_one-in-value.ensures

pub returns-in_default-clause-takes : goal.returns-in_default-clause-takes
returns-in_default-clause-takes c =
    takes_none signature_plan c.args.opened.now.version c.args.opened.now.element.now c.args.opened.now.attributes.now (signature_part c.args.self.now) c.args.reader.now (λ d. d) (rw (differs c.args.opened.now.element.now.local_name (codes "signers") (λ e. c.in_default.not-signers (c.as_str.ensures ∙ e)), differs c.args.opened.now.element.now.local_name (codes "chain") (λ e. c.in_default.not-chain (c.as_str.ensures ∙ e)), differs c.args.opened.now.element.now.local_name (codes "algorithm") (λ e. c.in_default.not-algorithm (c.as_str.ensures ∙ e)), differs c.args.opened.now.element.now.local_name (codes "value") (λ e. c.in_default.not-value (c.as_str.ensures ∙ e))) refl)

pub returns-in_err-signers-in-signers-clause-takes : goal.returns-in_err-signers-in-signers-clause-takes
returns-in_err-signers-in-signers-clause-takes c =
    let q = err_from_is_err_and c.from_residual.result c.from_residual.ensures.1 in
    let e = c.in_err-signers-in-signers.field-0.0 in
    let read = reads_signers c.args.reader.now c.read_items.new.reader c.args.opened.now.version c.args.opened.now.element.now c.args.opened.now.attributes.now (Err e) c.in_err-signers-in-signers.ensures in
    rw (q.1, q.2) (takes_one signature_plan c.args.opened.now.version c.args.opened.now.element.now c.args.opened.now.attributes.now (signature_part c.args.self.now) _ c.args.reader.now c.read_items.new.reader _ (λ d. d) (field 0 (signature_part c.args.self.now)) (Err e) (sym c.as_str.ensures ∙ c.in-signers.is) refl refl refl read)

pub returns-in_ok-signers-in-signers-clause-takes : goal.returns-in_ok-signers-in-signers-clause-takes
returns-in_ok-signers-in-signers-clause-takes c =
    let xs = c.in_ok-signers-in-signers.signers in
    let read = reads_signers c.args.reader.now c.read_items.new.reader c.args.opened.now.version c.args.opened.now.element.now c.args.opened.now.attributes.now (Ok xs) c.in_ok-signers-in-signers.ensures in
    takes_one signature_plan c.args.opened.now.version c.args.opened.now.element.now c.args.opened.now.attributes.now (signature_part c.args.self.now) _ c.args.reader.now c.read_items.new.reader _ (λ d. d) (signature_tree (signature.Signers xs)) (Ok Read) (sym c.as_str.ensures ∙ c.in-signers.is) refl refl refl
    (λ d ns p nodes rest st. let h = read d ns p nodes rest st in (refl, h.0, h.1))

pub returns-in_err-chain-in-chain-clause-takes : goal.returns-in_err-chain-in-chain-clause-takes
returns-in_err-chain-in-chain-clause-takes c =
    let q = err_from_is_err_and c.from_residual-in_err-chain-in-chain.result c.from_residual-in_err-chain-in-chain.ensures.1 in
    let e = c.in_err-chain-in-chain.field-0.0 in
    let read = reads_chain c.args.reader.now c.read_items-in-chain.new.reader c.args.opened.now.version c.args.opened.now.element.now c.args.opened.now.attributes.now (Err e) c.in_err-chain-in-chain.ensures in
    rw (q.1, q.2) (takes_one signature_plan c.args.opened.now.version c.args.opened.now.element.now c.args.opened.now.attributes.now (signature_part c.args.self.now) _ c.args.reader.now c.read_items-in-chain.new.reader _ (λ d. d) (field 0 (signature_part c.args.self.now)) (Err e) (sym c.as_str.ensures ∙ c.in-chain.is) refl refl refl read)

pub returns-in_ok-chain-in-chain-clause-takes : goal.returns-in_ok-chain-in-chain-clause-takes
returns-in_ok-chain-in-chain-clause-takes c =
    let xs = c.in_ok-chain-in-chain.chain in
    let read = reads_chain c.args.reader.now c.read_items-in-chain.new.reader c.args.opened.now.version c.args.opened.now.element.now c.args.opened.now.attributes.now (Ok xs) c.in_ok-chain-in-chain.ensures in
    takes_one signature_plan c.args.opened.now.version c.args.opened.now.element.now c.args.opened.now.attributes.now (signature_part c.args.self.now) _ c.args.reader.now c.read_items-in-chain.new.reader _ (λ d. d) (signature_tree (signature.Chain xs)) (Ok Read) (sym c.as_str.ensures ∙ c.in-chain.is) refl refl refl
    (λ d ns p nodes rest st. let h = read d ns p nodes rest st in (refl, h.0, h.1))
