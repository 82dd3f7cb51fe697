use Rattle.std.proofs.Common.{refl, sym, ◌∙◌}
use Rattle.std.specs.Prelude.{codes}
use Rattle.cdx_models.specs.declared.bom.SpecVersion.TheVariants.{V1_4}
use Rattle.cdx_models.specs.Trees.{tool}
use Rattle.cdx_schema.specs.Kinds as kinds
use Rattle.cdx_schema.specs.Table.{rows, list}
use Rattle.cdx_schema.specs.XmlReading.{record_plan, last}
use Rattle.cdx_leaf.specs.Parts.{tool_slots}
use Rattle.cdx_leaf.proofs.ChildSteps.{takes_one, takes_one_since, takes_none, differs}
use Rattle.cdx_leaf.proofs.reading.tool.ToolChildren.read_child.Goals as goal

pub returns-in-vendor-clause-takes : goal.returns-in-vendor-clause-takes
unfolding rows list
returns-in-vendor-clause-takes c =
    takes_one (record_plan tool) c.args.opened.now.version c.args.opened.now.element.now c.args.opened.now.attributes.now (tool_slots c.args.self.now) _ c.args.reader.now c.take_one.new.reader _ (λ d. d) _ c.take_one.result (sym c.as_str.ensures ∙ c.in-vendor.is) refl refl refl c.take_one.ensures

pub returns-in-name-clause-takes : goal.returns-in-name-clause-takes
unfolding rows list
returns-in-name-clause-takes c =
    takes_one (record_plan tool) c.args.opened.now.version c.args.opened.now.element.now c.args.opened.now.attributes.now (tool_slots c.args.self.now) _ c.args.reader.now c.take_one-in-name.new.reader _ (λ d. d) _ c.take_one-in-name.result (sym c.as_str.ensures ∙ c.in-name.is) refl refl refl c.take_one-in-name.ensures

pub returns-in-version-clause-takes : goal.returns-in-version-clause-takes
unfolding rows list
returns-in-version-clause-takes c =
    takes_one (record_plan tool) c.args.opened.now.version c.args.opened.now.element.now c.args.opened.now.attributes.now (tool_slots c.args.self.now) _ c.args.reader.now c.take_one-in-version.new.reader _ (λ d. d) _ c.take_one-in-version.result (sym c.as_str.ensures ∙ c.in-version.is) refl refl refl c.take_one-in-version.ensures

pub returns-in-hashes-clause-takes : goal.returns-in-hashes-clause-takes
unfolding rows list
returns-in-hashes-clause-takes c =
    takes_one (record_plan tool) c.args.opened.now.version c.args.opened.now.element.now c.args.opened.now.attributes.now (tool_slots c.args.self.now) _ c.args.reader.now c.take_one-in-hashes.new.reader _ (λ d. d) _ c.take_one-in-hashes.result (sym c.as_str.ensures ∙ c.in-hashes.is) refl refl refl c.take_one-in-hashes.ensures

pub returns-in-externalReferences-clause-takes : goal.returns-in-externalReferences-clause-takes
unfolding rows list
returns-in-externalReferences-clause-takes c =
    takes_one_since (record_plan tool) c.args.opened.now.version c.args.opened.now.element.now c.args.opened.now.attributes.now (tool_slots c.args.self.now) _ c.args.reader.now c.take_one_since.new.reader (record { name = codes "externalReferences"; since = V1_4; kind = kinds.a_list kinds.external_references; field = 4; place = last }) (λ d. d) _ c.take_one_since.result (sym c.as_str.ensures ∙ c.in-externalReferences.is) refl refl refl c.take_one_since.ensures.known (λ e. let u = c.take_one_since.ensures.unknown e in (rw (u.0) refl, u.1, u.2))

pub returns-in_default-clause-takes : goal.returns-in_default-clause-takes
unfolding rows
returns-in_default-clause-takes c =
    takes_none (record_plan tool) c.args.opened.now.version c.args.opened.now.element.now c.args.opened.now.attributes.now (tool_slots c.args.self.now) c.args.reader.now (λ d. d) (rw (differs c.args.opened.now.element.now.local_name (codes "vendor") (λ e. c.in_default.not-vendor (c.as_str.ensures ∙ e)), differs c.args.opened.now.element.now.local_name (codes "name") (λ e. c.in_default.not-name (c.as_str.ensures ∙ e)), differs c.args.opened.now.element.now.local_name (codes "version") (λ e. c.in_default.not-version (c.as_str.ensures ∙ e)), differs c.args.opened.now.element.now.local_name (codes "hashes") (λ e. c.in_default.not-hashes (c.as_str.ensures ∙ e)), differs c.args.opened.now.element.now.local_name (codes "externalReferences") (λ e. c.in_default.not-externalReferences (c.as_str.ensures ∙ e))) refl)
