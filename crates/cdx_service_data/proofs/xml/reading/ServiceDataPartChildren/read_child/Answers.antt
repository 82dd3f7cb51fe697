use Rattle.std.proofs.Common.{refl, sym, ◌∙◌}
use Rattle.std.specs.Prelude.{codes}
use Rattle.cdx_models.specs.Trees.{service_data}
use Rattle.cdx_schema.specs.Table.{rows, list}
use Rattle.cdx_schema.specs.XmlReading.{record_plan}
use Rattle.cdx_leaf.proofs.ChildSteps.{takes_one, takes_none, differs}
use Rattle.cdx_service_data.specs.Parts.{service_data_part}
use Rattle.cdx_service_data.proofs.xml.reading.ServiceDataPartChildren.read_child.Goals as goal

pub returns-in-classification-clause-takes : goal.returns-in-classification-clause-takes
unfolding rows list
returns-in-classification-clause-takes c =
    takes_one (record_plan service_data) c.args.opened.now.version c.args.opened.now.element.now c.args.opened.now.attributes.now (service_data_part c.args.self.now) _ c.args.reader.now c.take_one.new.reader _ (λ d. d) _ c.take_one.result (sym c.as_str.ensures ∙ c.in-classification.is) refl refl refl c.take_one.ensures

pub returns-in_default-clause-takes : goal.returns-in_default-clause-takes
unfolding rows
returns-in_default-clause-takes c =
    takes_none (record_plan service_data) c.args.opened.now.version c.args.opened.now.element.now c.args.opened.now.attributes.now (service_data_part c.args.self.now) c.args.reader.now (λ d. d) (rw (differs c.args.opened.now.element.now.local_name (codes "classification") (λ e. c.in_default.not-classification (c.as_str.ensures ∙ e))) refl)
