use Rattle.std.proofs.Common.{refl, sym, ◌∙◌}
use Rattle.std.specs.Prelude.{codes}
use Rattle.cdx_models.specs.Trees.{dependency}
use Rattle.cdx_schema.specs.Table.{rows, list}
use Rattle.cdx_schema.specs.XmlReading.{record_plan}
use Rattle.cdx_relations.specs.Parts.{dependency_part}
use Rattle.cdx_leaf.proofs.ChildSteps.{takes_more, takes_none, differs}
use Rattle.cdx_relations.proofs.xml.reading.dependency.DependencyChildren.read_child.Goals as goal

pub returns-in-dependency-clause-takes : goal.returns-in-dependency-clause-takes
unfolding rows list
returns-in-dependency-clause-takes c =
    takes_more (record_plan dependency) c.args.opened.now.version c.args.opened.now.element.now c.args.opened.now.attributes.now (dependency_part c.args.self.now) _ c.args.reader.now c.take_reference.new.reader _ (λ d. d) _ c.take_reference.result (sym c.as_str.ensures ∙ c.in-dependency.is) refl refl refl c.take_reference.ensures

pub returns-in_default-clause-takes : goal.returns-in_default-clause-takes
unfolding rows
returns-in_default-clause-takes c =
    takes_none (record_plan dependency) c.args.opened.now.version c.args.opened.now.element.now c.args.opened.now.attributes.now (dependency_part c.args.self.now) c.args.reader.now (λ d. d) (rw (differs c.args.opened.now.element.now.local_name (codes "dependency") (λ e. c.in_default.not-dependency (c.as_str.ensures ∙ e))) refl)
