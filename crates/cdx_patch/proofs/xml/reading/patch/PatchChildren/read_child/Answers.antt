use Rattle.std.proofs.Common.{refl, sym, ◌∙◌}
use Rattle.std.specs.Prelude.{codes}
use Rattle.cdx_models.specs.Trees.{patch, present, list_tree, issue}
use Rattle.cdx_schema.specs.Kinds as kinds
use Rattle.cdx_schema.specs.Table.{rows, list}
use Rattle.cdx_schema.specs.XmlReading.{record_plan}
use Rattle.cdx_leaf.specs.declared.rule.Rule.TheVariants.{Strict}
use Rattle.cdx_leaf.proofs.ChildSteps.{takes_one, takes_none, differs}
use Rattle.cdx_leaf.proofs.Parts.{takes_list}
use Rattle.cdx_patch.specs.Records.{issue_tree}
use Rattle.cdx_patch.specs.Slots.{patch_slots}
use Rattle.cdx_patch.proofs.xml.reading.patch.PatchChildren.read_child.Goals as goal

pub returns-in-diff-clause-takes : goal.returns-in-diff-clause-takes
unfolding rows list
returns-in-diff-clause-takes c =
    takes_one (record_plan patch) c.args.opened.now.version c.args.opened.now.element.now c.args.opened.now.attributes.now (patch_slots c.args.self.now) _ c.args.reader.now c.take_one.new.reader _ (λ d. d) _ c.take_one.result (sym c.as_str.ensures ∙ c.in-diff.is) refl refl refl c.take_one.ensures

pub returns-in-resolves-clause-takes : goal.returns-in-resolves-clause-takes
unfolding rows list
returns-in-resolves-clause-takes c =
    takes_one (record_plan patch) c.args.opened.now.version c.args.opened.now.element.now c.args.opened.now.attributes.now (patch_slots c.args.self.now) _ c.args.reader.now c.take_list.new.reader _ (λ d. d) _ c.take_list.result (sym c.as_str.ensures ∙ c.in-resolves.is) refl refl refl (takes_list (present (list_tree issue_tree) c.take_list.new.field) (kinds.a_record issue) (λ d. d) c.args.reader.now c.take_list.new.reader c.args.opened.now.version c.args.opened.now.element.now c.args.opened.now.attributes.now (codes "issue") Strict c.take_list.result kinds.resolved refl c.take_list.ensures)

pub returns-in_default-clause-takes : goal.returns-in_default-clause-takes
unfolding rows
returns-in_default-clause-takes c =
    takes_none (record_plan patch) c.args.opened.now.version c.args.opened.now.element.now c.args.opened.now.attributes.now (patch_slots c.args.self.now) c.args.reader.now (λ d. d) (rw (differs c.args.opened.now.element.now.local_name (codes "diff") (λ e. c.in_default.not-diff (c.as_str.ensures ∙ e)), differs c.args.opened.now.element.now.local_name (codes "resolves") (λ e. c.in_default.not-resolves (c.as_str.ensures ∙ e))) refl)
