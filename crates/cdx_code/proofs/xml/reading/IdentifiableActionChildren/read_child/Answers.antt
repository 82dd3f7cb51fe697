use Rattle.std.proofs.Common.{refl, sym, ◌∙◌}
use Rattle.std.specs.Prelude.{codes}
use Rattle.cdx_models.specs.Trees.{action}
use Rattle.cdx_schema.specs.Table.{rows, list}
use Rattle.cdx_schema.specs.XmlReading.{record_plan}
use Rattle.cdx_leaf.proofs.ChildSteps.{takes_one, takes_none, differs}
use Rattle.cdx_code.specs.Slots.{action_slots}
use Rattle.cdx_code.proofs.xml.reading.IdentifiableActionChildren.read_child.Goals as goal

pub returns-in-timestamp-clause-takes : goal.returns-in-timestamp-clause-takes
unfolding rows list
returns-in-timestamp-clause-takes c =
    takes_one (record_plan action) c.args.opened.now.version c.args.opened.now.element.now c.args.opened.now.attributes.now (action_slots c.args.self.now) _ c.args.reader.now c.take_one.new.reader _ (λ d. d) _ c.take_one.result (sym c.as_str.ensures ∙ c.in-timestamp.is) refl refl refl c.take_one.ensures

pub returns-in-name-clause-takes : goal.returns-in-name-clause-takes
unfolding rows list
returns-in-name-clause-takes c =
    takes_one (record_plan action) c.args.opened.now.version c.args.opened.now.element.now c.args.opened.now.attributes.now (action_slots c.args.self.now) _ c.args.reader.now c.take_one-in-name.new.reader _ (λ d. d) _ c.take_one-in-name.result (sym c.as_str.ensures ∙ c.in-name.is) refl refl refl c.take_one-in-name.ensures

pub returns-in-email-clause-takes : goal.returns-in-email-clause-takes
unfolding rows list
returns-in-email-clause-takes c =
    takes_one (record_plan action) c.args.opened.now.version c.args.opened.now.element.now c.args.opened.now.attributes.now (action_slots c.args.self.now) _ c.args.reader.now c.take_one-in-email.new.reader _ (λ d. d) _ c.take_one-in-email.result (sym c.as_str.ensures ∙ c.in-email.is) refl refl refl c.take_one-in-email.ensures

pub returns-in_default-clause-takes : goal.returns-in_default-clause-takes
unfolding rows
returns-in_default-clause-takes c =
    takes_none (record_plan action) c.args.opened.now.version c.args.opened.now.element.now c.args.opened.now.attributes.now (action_slots c.args.self.now) c.args.reader.now (λ d. d) (rw (differs c.args.opened.now.element.now.local_name (codes "timestamp") (λ e. c.in_default.not-timestamp (c.as_str.ensures ∙ e)), differs c.args.opened.now.element.now.local_name (codes "name") (λ e. c.in_default.not-name (c.as_str.ensures ∙ e)), differs c.args.opened.now.element.now.local_name (codes "email") (λ e. c.in_default.not-email (c.as_str.ensures ∙ e))) refl)
