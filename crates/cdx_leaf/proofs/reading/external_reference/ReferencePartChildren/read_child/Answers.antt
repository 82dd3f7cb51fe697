use Rattle.std.proofs.Common.{refl, sym, ◌∙◌}
use Rattle.std.specs.Prelude.{codes}
use Rattle.cdx_models.specs.Trees.{reference}
use Rattle.cdx_schema.specs.Table.{rows, list}
use Rattle.cdx_schema.specs.XmlReading.{record_plan}
use Rattle.cdx_leaf.specs.Parts.{reference_part}
use Rattle.cdx_leaf.proofs.ChildSteps.{takes_one, takes_none, differs}
use Rattle.cdx_leaf.proofs.reading.external_reference.ReferencePartChildren.read_child.Goals as goal

pub returns-in-url-clause-takes : goal.returns-in-url-clause-takes
unfolding rows list
returns-in-url-clause-takes c =
    takes_one (record_plan reference) c.args.opened.now.version c.args.opened.now.element.now c.args.opened.now.attributes.now (reference_part c.args.self.now) _ c.args.reader.now c.take_one.new.reader _ (λ d. d) _ c.take_one.result (sym c.as_str.ensures ∙ c.in-url.is) refl refl refl c.take_one.ensures

pub returns-in-comment-clause-takes : goal.returns-in-comment-clause-takes
unfolding rows list
returns-in-comment-clause-takes c =
    takes_one (record_plan reference) c.args.opened.now.version c.args.opened.now.element.now c.args.opened.now.attributes.now (reference_part c.args.self.now) _ c.args.reader.now c.take_one-in-comment.new.reader _ (λ d. d) _ c.take_one-in-comment.result (sym c.as_str.ensures ∙ c.in-comment.is) refl refl refl c.take_one-in-comment.ensures

pub returns-in-hashes-clause-takes : goal.returns-in-hashes-clause-takes
unfolding rows list
returns-in-hashes-clause-takes c =
    takes_one (record_plan reference) c.args.opened.now.version c.args.opened.now.element.now c.args.opened.now.attributes.now (reference_part c.args.self.now) _ c.args.reader.now c.take_one-in-hashes.new.reader _ (λ d. d) _ c.take_one-in-hashes.result (sym c.as_str.ensures ∙ c.in-hashes.is) refl refl refl c.take_one-in-hashes.ensures

pub returns-in_default-clause-takes : goal.returns-in_default-clause-takes
unfolding rows
returns-in_default-clause-takes c =
    takes_none (record_plan reference) c.args.opened.now.version c.args.opened.now.element.now c.args.opened.now.attributes.now (reference_part c.args.self.now) c.args.reader.now (λ d. d) (rw (differs c.args.opened.now.element.now.local_name (codes "url") (λ e. c.in_default.not-url (c.as_str.ensures ∙ e)), differs c.args.opened.now.element.now.local_name (codes "comment") (λ e. c.in_default.not-comment (c.as_str.ensures ∙ e)), differs c.args.opened.now.element.now.local_name (codes "hashes") (λ e. c.in_default.not-hashes (c.as_str.ensures ∙ e))) refl)
