use Rattle.std.proofs.Common.{refl, sym, ◌∙◌}
use Rattle.std.specs.Prelude.{codes}
use Rattle.cdx_models.specs.Trees.{evidence}
use Rattle.cdx_schema.specs.Table.{rows, list}
use Rattle.cdx_schema.specs.XmlReading.{record_plan}
use Rattle.cdx_leaf.proofs.ChildSteps.{takes_one, takes_none, differs}
use Rattle.cdx_component_parts.specs.Parts.{evidence_slots}
use Rattle.cdx_component_parts.proofs.xml.reading.ComponentEvidenceChildren.read_child.Goals as goal

pub returns-in-licenses-clause-takes : goal.returns-in-licenses-clause-takes
unfolding rows list
returns-in-licenses-clause-takes c =
    takes_one (record_plan evidence) c.args.opened.now.version c.args.opened.now.element.now c.args.opened.now.attributes.now (evidence_slots c.args.self.now) _ c.args.reader.now c.take_one.new.reader _ (λ d. d) _ c.take_one.result (sym c.as_str.ensures ∙ c.in-licenses.is) refl refl refl c.take_one.ensures

pub returns-in-copyright-clause-takes : goal.returns-in-copyright-clause-takes
unfolding rows list
returns-in-copyright-clause-takes c =
    takes_one (record_plan evidence) c.args.opened.now.version c.args.opened.now.element.now c.args.opened.now.attributes.now (evidence_slots c.args.self.now) _ c.args.reader.now c.take_one-in-copyright.new.reader _ (λ d. d) _ c.take_one-in-copyright.result (sym c.as_str.ensures ∙ c.in-copyright.is) refl refl refl c.take_one-in-copyright.ensures

pub returns-in_default-clause-takes : goal.returns-in_default-clause-takes
unfolding rows
returns-in_default-clause-takes c =
    takes_none (record_plan evidence) c.args.opened.now.version c.args.opened.now.element.now c.args.opened.now.attributes.now (evidence_slots c.args.self.now) c.args.reader.now (λ d. d) (rw (differs c.args.opened.now.element.now.local_name (codes "licenses") (λ e. c.in_default.not-licenses (c.as_str.ensures ∙ e)), differs c.args.opened.now.element.now.local_name (codes "copyright") (λ e. c.in_default.not-copyright (c.as_str.ensures ∙ e))) refl)
