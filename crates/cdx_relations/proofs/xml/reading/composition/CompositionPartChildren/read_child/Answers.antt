use Rattle.std.proofs.Common.{refl, sym, ◌∙◌}
use Rattle.std.specs.Prelude.{codes}
use Rattle.cdx_models.specs.declared.bom.SpecVersion.TheVariants.{V1_4, V1_5}
use Rattle.cdx_models.specs.Trees.{composition, present, list_tree}
use Rattle.cdx_relations.specs.Records.{bom_reference_tree}
use Rattle.cdx_leaf.specs.declared.rule.Rule.TheVariants.{Lax}
use Rattle.cdx_schema.specs.Kinds as kinds
use Rattle.cdx_schema.specs.Table.{rows, list}
use Rattle.cdx_schema.specs.XmlReading.{record_plan, last}
use Rattle.cdx_relations.specs.Parts.{composition_part}
use Rattle.cdx_leaf.proofs.ChildSteps.{takes_one, takes_one_since, takes_none, differs}
use Rattle.cdx_leaf.proofs.Parts.{takes_list}
use Rattle.cdx_relations.proofs.xml.reading.composition.CompositionPartChildren.read_child.Goals as goal

pub returns-in-aggregate-clause-takes : goal.returns-in-aggregate-clause-takes
unfolding rows list
returns-in-aggregate-clause-takes c =
    takes_one (record_plan composition) c.args.opened.now.version c.args.opened.now.element.now c.args.opened.now.attributes.now (composition_part c.args.self.now) _ c.args.reader.now c.take_one.new.reader _ (λ d. d) _ c.take_one.result (sym c.as_str.ensures ∙ c.in-aggregate.is) refl refl refl c.take_one.ensures

pub returns-in-assemblies-clause-takes : goal.returns-in-assemblies-clause-takes
unfolding rows list
returns-in-assemblies-clause-takes c =
    takes_one (record_plan composition) c.args.opened.now.version c.args.opened.now.element.now c.args.opened.now.attributes.now (composition_part c.args.self.now) _ c.args.reader.now c.take_list.new.reader _ (λ d. d) _ c.take_list.result (sym c.as_str.ensures ∙ c.in-assemblies.is) refl refl refl (takes_list (present (list_tree bom_reference_tree) c.take_list.new.field) kinds.a_reference (λ d. d) c.args.reader.now c.take_list.new.reader c.args.opened.now.version c.args.opened.now.element.now c.args.opened.now.attributes.now (codes "assembly") Lax c.take_list.result kinds.assemblies refl c.take_list.ensures)

pub returns-in-dependencies-clause-takes : goal.returns-in-dependencies-clause-takes
unfolding rows list
returns-in-dependencies-clause-takes c =
    takes_one (record_plan composition) c.args.opened.now.version c.args.opened.now.element.now c.args.opened.now.attributes.now (composition_part c.args.self.now) _ c.args.reader.now c.take_list-in-dependencies.new.reader _ (λ d. d) _ c.take_list-in-dependencies.result (sym c.as_str.ensures ∙ c.in-dependencies.is) refl refl refl (takes_list (present (list_tree bom_reference_tree) c.take_list-in-dependencies.new.field) kinds.a_reference (λ d. d) c.args.reader.now c.take_list-in-dependencies.new.reader c.args.opened.now.version c.args.opened.now.element.now c.args.opened.now.attributes.now (codes "dependency") Lax c.take_list-in-dependencies.result kinds.composed refl c.take_list-in-dependencies.ensures)

pub returns-then-not-is_known_to-clause-takes : goal.returns-then-not-is_known_to-clause-takes
unfolding rows
returns-then-not-is_known_to-clause-takes c =
    takes_none (record_plan composition) c.args.opened.now.version c.args.opened.now.element.now c.args.opened.now.attributes.now (composition_part c.args.self.now) c.args.reader.now (λ d. d) (rw ((sym c.as_str.ensures ∙ c.in-vulnerabilities.is), sym c.if-not-is_known_to.ensures) refl)

pub returns-else-not-is_known_to-clause-takes : goal.returns-else-not-is_known_to-clause-takes
unfolding rows list
returns-else-not-is_known_to-clause-takes c =
    takes_one (record_plan composition) c.args.opened.now.version c.args.opened.now.element.now c.args.opened.now.attributes.now (composition_part c.args.self.now) _ c.args.reader.now c.take_list-in-vulnerabilities.new.reader (record { name = codes "vulnerabilities"; since = V1_5; kind = kinds.a_list kinds.vulnerabilities; field = 4; place = last }) (λ d. d) _ c.take_list-in-vulnerabilities.result (sym c.as_str.ensures ∙ c.in-vulnerabilities.is) (rw (sym c.if-not-is_known_to.ensures) refl) refl refl (takes_list (present (list_tree bom_reference_tree) c.take_list-in-vulnerabilities.new.field) kinds.a_reference (λ d. d) c.args.reader.now c.take_list-in-vulnerabilities.new.reader c.args.opened.now.version c.args.opened.now.element.now c.args.opened.now.attributes.now (codes "vulnerability") Lax c.take_list-in-vulnerabilities.result kinds.vulnerabilities refl c.take_list-in-vulnerabilities.ensures)

pub returns-in-signature-clause-takes : goal.returns-in-signature-clause-takes
unfolding rows list
returns-in-signature-clause-takes c =
    takes_one_since (record_plan composition) c.args.opened.now.version c.args.opened.now.element.now c.args.opened.now.attributes.now (composition_part c.args.self.now) _ c.args.reader.now c.take_one_since.new.reader (record { name = codes "signature"; since = V1_4; kind = kinds.a_signature; field = 5; place = last }) (λ d. d) _ c.take_one_since.result (sym c.as_str.ensures ∙ c.in-signature.is) refl refl refl c.take_one_since.ensures.known (λ e. let u = c.take_one_since.ensures.unknown e in (rw (u.0) refl, u.1, u.2))

pub returns-in_default-clause-takes : goal.returns-in_default-clause-takes
unfolding rows
returns-in_default-clause-takes c =
    takes_none (record_plan composition) c.args.opened.now.version c.args.opened.now.element.now c.args.opened.now.attributes.now (composition_part c.args.self.now) c.args.reader.now (λ d. d) (rw (differs c.args.opened.now.element.now.local_name (codes "aggregate") (λ e. c.in_default.not-aggregate (c.as_str.ensures ∙ e)), differs c.args.opened.now.element.now.local_name (codes "assemblies") (λ e. c.in_default.not-assemblies (c.as_str.ensures ∙ e)), differs c.args.opened.now.element.now.local_name (codes "dependencies") (λ e. c.in_default.not-dependencies (c.as_str.ensures ∙ e)), differs c.args.opened.now.element.now.local_name (codes "vulnerabilities") (λ e. c.in_default.not-vulnerabilities (c.as_str.ensures ∙ e)), differs c.args.opened.now.element.now.local_name (codes "signature") (λ e. c.in_default.not-signature (c.as_str.ensures ∙ e))) refl)
