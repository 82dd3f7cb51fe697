use Rattle.std.proofs.Common.{refl, sym, ◌∙◌}
use Rattle.std.specs.Prelude.{codes}
use Rattle.cdx_models.specs.declared.bom.SpecVersion.TheVariants.{V1_5}
use Rattle.cdx_schema.specs.Kinds.{an_entry}
use Rattle.cdx_schema.specs.XmlReading.{data_plan, all}
use Rattle.cdx_leaf.proofs.ChildSteps.{takes_more, takes_none, differs}
use Rattle.cdx_service_data.specs.Parts.{data_part}
use Rattle.cdx_service_data.proofs.Flows.{flow_taken}
use Rattle.cdx_service_data.proofs.xml.reading.DataPartChildren.read_child.Goals as goal

pub returns-in-classification-clause-takes : goal.returns-in-classification-clause-takes
returns-in-classification-clause-takes c =
    takes_more data_plan c.args.opened.now.version c.args.opened.now.element.now c.args.opened.now.attributes.now (data_part c.args.self.now) _ c.args.reader.now c.take_into.new.reader _ (λ d. d) _ c.take_into.result (sym c.as_str.ensures ∙ c.in-classification.is) refl refl refl c.take_into.ensures

pub returns-then-not-is_known_to-clause-takes : goal.returns-then-not-is_known_to-clause-takes
returns-then-not-is_known_to-clause-takes c =
    takes_none data_plan c.args.opened.now.version c.args.opened.now.element.now c.args.opened.now.attributes.now (data_part c.args.self.now) c.args.reader.now (λ d. d) (rw ((sym c.as_str.ensures ∙ c.in-dataflow.is), sym c.if-not-is_known_to.ensures) refl)

pub returns-else-not-is_known_to-clause-takes : goal.returns-else-not-is_known_to-clause-takes
returns-else-not-is_known_to-clause-takes c =
    takes_more data_plan c.args.opened.now.version c.args.opened.now.element.now c.args.opened.now.attributes.now (data_part c.args.self.now) _ c.args.reader.now c.take_into-in-dataflow.new.reader (record { name = codes "dataflow"; since = V1_5; kind = an_entry; field = 1; place = all }) (λ d. d) _ c.take_into-in-dataflow.result (sym c.as_str.ensures ∙ c.in-dataflow.is) (rw (sym c.if-not-is_known_to.ensures) refl) refl refl
    (flow_taken c.args.opened.now.version c.args.opened.now.element.now c.args.opened.now.attributes.now c.args.reader.now c.take_into-in-dataflow.new.reader c.args.self.now.flows _ c.take_into-in-dataflow.result c.take_into-in-dataflow.ensures)

pub returns-in_default-clause-takes : goal.returns-in_default-clause-takes
returns-in_default-clause-takes c =
    takes_none data_plan c.args.opened.now.version c.args.opened.now.element.now c.args.opened.now.attributes.now (data_part c.args.self.now) c.args.reader.now (λ d. d) (rw (differs c.args.opened.now.element.now.local_name (codes "classification") (λ e. c.in_default.not-classification (c.as_str.ensures ∙ e)), differs c.args.opened.now.element.now.local_name (codes "dataflow") (λ e. c.in_default.not-dataflow (c.as_str.ensures ∙ e))) refl)
