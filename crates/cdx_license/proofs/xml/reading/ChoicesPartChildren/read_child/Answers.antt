use Rattle.std.proofs.Common.{refl, sym, ◌∙◌}
use Rattle.std.specs.Prelude.{codes}
use Rattle.cdx_schema.specs.Kinds.{licenses}
use Rattle.cdx_schema.specs.XmlReading.{choice_plan}
use Rattle.cdx_license.specs.Parts.{choices_part}
use Rattle.cdx_leaf.proofs.ChildSteps.{takes_more, takes_none, differs}
use Rattle.cdx_license.proofs.xml.reading.ChoicesPartChildren.read_child.Goals as goal

pub returns-in-license-clause-takes : goal.returns-in-license-clause-takes
returns-in-license-clause-takes c =
    takes_more (choice_plan licenses) c.args.opened.now.version c.args.opened.now.element.now c.args.opened.now.attributes.now (choices_part c.args.self.now) _ c.args.reader.now c.take_into.new.reader _ (λ d. d) _ c.take_into.result (sym c.as_str.ensures ∙ c.in-license.is) refl refl refl c.take_into.ensures

pub returns-in-expression-clause-takes : goal.returns-in-expression-clause-takes
returns-in-expression-clause-takes c =
    takes_more (choice_plan licenses) c.args.opened.now.version c.args.opened.now.element.now c.args.opened.now.attributes.now (choices_part c.args.self.now) _ c.args.reader.now c.take_into-in-expression.new.reader _ (λ d. d) _ c.take_into-in-expression.result (sym c.as_str.ensures ∙ c.in-expression.is) refl refl refl c.take_into-in-expression.ensures

pub returns-in_default-clause-takes : goal.returns-in_default-clause-takes
returns-in_default-clause-takes c =
    takes_none (choice_plan licenses) c.args.opened.now.version c.args.opened.now.element.now c.args.opened.now.attributes.now (choices_part c.args.self.now) c.args.reader.now (λ d. d) (rw (differs c.args.opened.now.element.now.local_name (codes "license") (λ e. c.in_default.not-license (c.as_str.ensures ∙ e)), differs c.args.opened.now.element.now.local_name (codes "expression") (λ e. c.in_default.not-expression (c.as_str.ensures ∙ e))) refl)
