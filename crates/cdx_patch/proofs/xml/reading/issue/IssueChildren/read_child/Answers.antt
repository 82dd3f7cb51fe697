use Rattle.std.proofs.Common.{refl, sym, ◌∙◌}
use Rattle.std.specs.Prelude.{codes}
use Rattle.cdx_models.specs.Trees.{issue, present, list_tree, text}
use Rattle.cdx_schema.specs.Kinds as kinds
use Rattle.cdx_schema.specs.Table.{rows, list}
use Rattle.cdx_schema.specs.XmlReading.{record_plan}
use Rattle.cdx_leaf.specs.declared.rule.Rule.TheVariants.{Strict}
use Rattle.cdx_leaf.proofs.ChildSteps.{takes_one, takes_none, differs}
use Rattle.cdx_leaf.proofs.Parts.{takes_list}
use Rattle.cdx_patch.specs.Slots.{issue_slots}
use Rattle.cdx_patch.proofs.xml.reading.issue.IssueChildren.read_child.Goals as goal

pub returns-in-id-clause-takes : goal.returns-in-id-clause-takes
unfolding rows list
returns-in-id-clause-takes c =
    takes_one (record_plan issue) c.args.opened.now.version c.args.opened.now.element.now c.args.opened.now.attributes.now (issue_slots c.args.self.now) _ c.args.reader.now c.take_one.new.reader _ (λ d. d) _ c.take_one.result (sym c.as_str.ensures ∙ c.in-id.is) refl refl refl c.take_one.ensures

pub returns-in-name-clause-takes : goal.returns-in-name-clause-takes
unfolding rows list
returns-in-name-clause-takes c =
    takes_one (record_plan issue) c.args.opened.now.version c.args.opened.now.element.now c.args.opened.now.attributes.now (issue_slots c.args.self.now) _ c.args.reader.now c.take_one-in-name.new.reader _ (λ d. d) _ c.take_one-in-name.result (sym c.as_str.ensures ∙ c.in-name.is) refl refl refl c.take_one-in-name.ensures

pub returns-in-description-clause-takes : goal.returns-in-description-clause-takes
unfolding rows list
returns-in-description-clause-takes c =
    takes_one (record_plan issue) c.args.opened.now.version c.args.opened.now.element.now c.args.opened.now.attributes.now (issue_slots c.args.self.now) _ c.args.reader.now c.take_one-in-description.new.reader _ (λ d. d) _ c.take_one-in-description.result (sym c.as_str.ensures ∙ c.in-description.is) refl refl refl c.take_one-in-description.ensures

pub returns-in-source-clause-takes : goal.returns-in-source-clause-takes
unfolding rows list
returns-in-source-clause-takes c =
    takes_one (record_plan issue) c.args.opened.now.version c.args.opened.now.element.now c.args.opened.now.attributes.now (issue_slots c.args.self.now) _ c.args.reader.now c.take_one-in-source.new.reader _ (λ d. d) _ c.take_one-in-source.result (sym c.as_str.ensures ∙ c.in-source.is) refl refl refl c.take_one-in-source.ensures

pub returns-in-references-clause-takes : goal.returns-in-references-clause-takes
unfolding rows list
returns-in-references-clause-takes c =
    takes_one (record_plan issue) c.args.opened.now.version c.args.opened.now.element.now c.args.opened.now.attributes.now (issue_slots c.args.self.now) _ c.args.reader.now c.take_list.new.reader _ (λ d. d) _ c.take_list.result (sym c.as_str.ensures ∙ c.in-references.is) refl refl refl (takes_list (present (list_tree text) c.take_list.new.field) kinds.a_text (λ d. d) c.args.reader.now c.take_list.new.reader c.args.opened.now.version c.args.opened.now.element.now c.args.opened.now.attributes.now (codes "url") Strict c.take_list.result kinds.links refl c.take_list.ensures)

pub returns-in_default-clause-takes : goal.returns-in_default-clause-takes
unfolding rows
returns-in_default-clause-takes c =
    takes_none (record_plan issue) c.args.opened.now.version c.args.opened.now.element.now c.args.opened.now.attributes.now (issue_slots c.args.self.now) c.args.reader.now (λ d. d) (rw (differs c.args.opened.now.element.now.local_name (codes "id") (λ e. c.in_default.not-id (c.as_str.ensures ∙ e)), differs c.args.opened.now.element.now.local_name (codes "name") (λ e. c.in_default.not-name (c.as_str.ensures ∙ e)), differs c.args.opened.now.element.now.local_name (codes "description") (λ e. c.in_default.not-description (c.as_str.ensures ∙ e)), differs c.args.opened.now.element.now.local_name (codes "source") (λ e. c.in_default.not-source (c.as_str.ensures ∙ e)), differs c.args.opened.now.element.now.local_name (codes "references") (λ e. c.in_default.not-references (c.as_str.ensures ∙ e))) refl)
