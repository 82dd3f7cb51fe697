use Rattle.std.proofs.Common.{refl, sym, ◌∙◌}
use Rattle.std.specs.Prelude.{codes}
use Rattle.cdx_models.specs.Trees.{signer}
use Rattle.cdx_schema.specs.Table.{rows, list}
use Rattle.cdx_schema.specs.XmlReading.{record_plan}
use Rattle.cdx_signature.specs.Parts.{signer_part}
use Rattle.cdx_leaf.proofs.ChildSteps.{takes_one, takes_none, differs}
use Rattle.cdx_signature.proofs.xml.reading.SignerPartChildren.read_child.Goals as goal

pub returns-in-algorithm-clause-takes : goal.returns-in-algorithm-clause-takes
unfolding rows list
returns-in-algorithm-clause-takes c =
    takes_one (record_plan signer) c.args.opened.now.version c.args.opened.now.element.now c.args.opened.now.attributes.now (signer_part c.args.self.now) _ c.args.reader.now c.take_one.new.reader _ (λ d. d) _ c.take_one.result (sym c.as_str.ensures ∙ c.in-algorithm.is) refl refl refl c.take_one.ensures

pub returns-in-value-clause-takes : goal.returns-in-value-clause-takes
unfolding rows list
returns-in-value-clause-takes c =
    takes_one (record_plan signer) c.args.opened.now.version c.args.opened.now.element.now c.args.opened.now.attributes.now (signer_part c.args.self.now) _ c.args.reader.now c.take_one-in-value.new.reader _ (λ d. d) _ c.take_one-in-value.result (sym c.as_str.ensures ∙ c.in-value.is) refl refl refl c.take_one-in-value.ensures

pub returns-in_default-clause-takes : goal.returns-in_default-clause-takes
unfolding rows
returns-in_default-clause-takes c =
    takes_none (record_plan signer) c.args.opened.now.version c.args.opened.now.element.now c.args.opened.now.attributes.now (signer_part c.args.self.now) c.args.reader.now (λ d. d) (rw (differs c.args.opened.now.element.now.local_name (codes "algorithm") (λ e. c.in_default.not-algorithm (c.as_str.ensures ∙ e)), differs c.args.opened.now.element.now.local_name (codes "value") (λ e. c.in_default.not-value (c.as_str.ensures ∙ e))) refl)
