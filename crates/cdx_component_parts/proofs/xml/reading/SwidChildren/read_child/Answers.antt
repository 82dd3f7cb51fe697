use Rattle.std.proofs.Common.{refl, sym, ◌∙◌}
use Rattle.std.specs.Prelude.{codes}
use Rattle.cdx_models.specs.Trees.{swid}
use Rattle.cdx_schema.specs.Table.{rows, list}
use Rattle.cdx_schema.specs.XmlReading.{record_plan}
use Rattle.cdx_leaf.proofs.ChildSteps.{takes_one, takes_none, differs}
use Rattle.cdx_component_parts.specs.Parts.{swid_slots}
use Rattle.cdx_component_parts.proofs.xml.reading.SwidChildren.read_child.Goals as goal

pub returns-in-text-clause-takes : goal.returns-in-text-clause-takes
unfolding rows list
returns-in-text-clause-takes c =
    takes_one (record_plan swid) c.args.opened.now.version c.args.opened.now.element.now c.args.opened.now.attributes.now (swid_slots c.args.self.now) _ c.args.reader.now c.take_one.new.reader _ (λ d. d) _ c.take_one.result (sym c.as_str.ensures ∙ c.in-text.is) refl refl refl c.take_one.ensures

pub returns-in-url-clause-takes : goal.returns-in-url-clause-takes
unfolding rows list
returns-in-url-clause-takes c =
    takes_one (record_plan swid) c.args.opened.now.version c.args.opened.now.element.now c.args.opened.now.attributes.now (swid_slots c.args.self.now) _ c.args.reader.now c.take_one-in-url.new.reader _ (λ d. d) _ c.take_one-in-url.result (sym c.as_str.ensures ∙ c.in-url.is) refl refl refl c.take_one-in-url.ensures

pub returns-in_default-clause-takes : goal.returns-in_default-clause-takes
unfolding rows
returns-in_default-clause-takes c =
    takes_none (record_plan swid) c.args.opened.now.version c.args.opened.now.element.now c.args.opened.now.attributes.now (swid_slots c.args.self.now) c.args.reader.now (λ d. d) (rw (differs c.args.opened.now.element.now.local_name (codes "text") (λ e. c.in_default.not-text (c.as_str.ensures ∙ e)), differs c.args.opened.now.element.now.local_name (codes "url") (λ e. c.in_default.not-url (c.as_str.ensures ∙ e))) refl)
