use Rattle.std.proofs.Common.{refl, sym, ◌∙◌}
use Rattle.std.specs.Prelude.{codes}
use Rattle.cdx_models.specs.Trees.{entity}
use Rattle.cdx_schema.specs.Table.{rows, list}
use Rattle.cdx_schema.specs.XmlReading.{record_plan}
use Rattle.cdx_leaf.specs.Parts.{entity_slots}
use Rattle.cdx_leaf.proofs.ChildSteps.{takes_one, takes_more, takes_none, differs}
use Rattle.cdx_leaf.proofs.reading.organization.OrganizationalEntityChildren.read_child.Goals as goal

pub returns-in-name-clause-takes : goal.returns-in-name-clause-takes
unfolding rows list
returns-in-name-clause-takes c =
    takes_one (record_plan entity) c.args.opened.now.version c.args.opened.now.element.now c.args.opened.now.attributes.now (entity_slots c.args.self.now) _ c.args.reader.now c.take_one.new.reader _ (λ d. d) _ c.take_one.result (sym c.as_str.ensures ∙ c.in-name.is) refl refl refl c.take_one.ensures

pub returns-in-url-clause-takes : goal.returns-in-url-clause-takes
unfolding rows list
returns-in-url-clause-takes c =
    takes_more (record_plan entity) c.args.opened.now.version c.args.opened.now.element.now c.args.opened.now.attributes.now (entity_slots c.args.self.now) _ c.args.reader.now c.take_more.new.reader _ (λ d. d) _ c.take_more.result (sym c.as_str.ensures ∙ c.in-url.is) refl refl refl c.take_more.ensures

pub returns-in-contact-clause-takes : goal.returns-in-contact-clause-takes
unfolding rows list
returns-in-contact-clause-takes c =
    takes_more (record_plan entity) c.args.opened.now.version c.args.opened.now.element.now c.args.opened.now.attributes.now (entity_slots c.args.self.now) _ c.args.reader.now c.take_more-in-contact.new.reader _ (λ d. d) _ c.take_more-in-contact.result (sym c.as_str.ensures ∙ c.in-contact.is) refl refl refl c.take_more-in-contact.ensures

pub returns-in_default-clause-takes : goal.returns-in_default-clause-takes
unfolding rows
returns-in_default-clause-takes c =
    takes_none (record_plan entity) c.args.opened.now.version c.args.opened.now.element.now c.args.opened.now.attributes.now (entity_slots c.args.self.now) c.args.reader.now (λ d. d) (rw (differs c.args.opened.now.element.now.local_name (codes "name") (λ e. c.in_default.not-name (c.as_str.ensures ∙ e)), differs c.args.opened.now.element.now.local_name (codes "url") (λ e. c.in_default.not-url (c.as_str.ensures ∙ e)), differs c.args.opened.now.element.now.local_name (codes "contact") (λ e. c.in_default.not-contact (c.as_str.ensures ∙ e))) refl)
