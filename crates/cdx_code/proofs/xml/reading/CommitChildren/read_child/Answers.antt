use Rattle.std.proofs.Common.{refl, sym, ◌∙◌}
use Rattle.std.specs.Prelude.{codes}
use Rattle.cdx_models.specs.Trees.{commit}
use Rattle.cdx_schema.specs.Table.{rows, list}
use Rattle.cdx_schema.specs.XmlReading.{record_plan}
use Rattle.cdx_leaf.proofs.ChildSteps.{takes_one, takes_none, differs}
use Rattle.cdx_code.specs.Slots.{commit_slots}
use Rattle.cdx_code.proofs.xml.reading.CommitChildren.read_child.Goals as goal

pub returns-in-uid-clause-takes : goal.returns-in-uid-clause-takes
unfolding rows list
returns-in-uid-clause-takes c =
    takes_one (record_plan commit) c.args.opened.now.version c.args.opened.now.element.now c.args.opened.now.attributes.now (commit_slots c.args.self.now) _ c.args.reader.now c.take_one.new.reader _ (λ d. d) _ c.take_one.result (sym c.as_str.ensures ∙ c.in-uid.is) refl refl refl c.take_one.ensures

pub returns-in-url-clause-takes : goal.returns-in-url-clause-takes
unfolding rows list
returns-in-url-clause-takes c =
    takes_one (record_plan commit) c.args.opened.now.version c.args.opened.now.element.now c.args.opened.now.attributes.now (commit_slots c.args.self.now) _ c.args.reader.now c.take_one-in-url.new.reader _ (λ d. d) _ c.take_one-in-url.result (sym c.as_str.ensures ∙ c.in-url.is) refl refl refl c.take_one-in-url.ensures

pub returns-in-author-clause-takes : goal.returns-in-author-clause-takes
unfolding rows list
returns-in-author-clause-takes c =
    takes_one (record_plan commit) c.args.opened.now.version c.args.opened.now.element.now c.args.opened.now.attributes.now (commit_slots c.args.self.now) _ c.args.reader.now c.take_one-in-author.new.reader _ (λ d. d) _ c.take_one-in-author.result (sym c.as_str.ensures ∙ c.in-author.is) refl refl refl c.take_one-in-author.ensures

pub returns-in-committer-clause-takes : goal.returns-in-committer-clause-takes
unfolding rows list
returns-in-committer-clause-takes c =
    takes_one (record_plan commit) c.args.opened.now.version c.args.opened.now.element.now c.args.opened.now.attributes.now (commit_slots c.args.self.now) _ c.args.reader.now c.take_one-in-committer.new.reader _ (λ d. d) _ c.take_one-in-committer.result (sym c.as_str.ensures ∙ c.in-committer.is) refl refl refl c.take_one-in-committer.ensures

pub returns-in-message-clause-takes : goal.returns-in-message-clause-takes
unfolding rows list
returns-in-message-clause-takes c =
    takes_one (record_plan commit) c.args.opened.now.version c.args.opened.now.element.now c.args.opened.now.attributes.now (commit_slots c.args.self.now) _ c.args.reader.now c.take_one-in-message.new.reader _ (λ d. d) _ c.take_one-in-message.result (sym c.as_str.ensures ∙ c.in-message.is) refl refl refl c.take_one-in-message.ensures

pub returns-in_default-clause-takes : goal.returns-in_default-clause-takes
unfolding rows
returns-in_default-clause-takes c =
    takes_none (record_plan commit) c.args.opened.now.version c.args.opened.now.element.now c.args.opened.now.attributes.now (commit_slots c.args.self.now) c.args.reader.now (λ d. d) (rw (differs c.args.opened.now.element.now.local_name (codes "uid") (λ e. c.in_default.not-uid (c.as_str.ensures ∙ e)), differs c.args.opened.now.element.now.local_name (codes "url") (λ e. c.in_default.not-url (c.as_str.ensures ∙ e)), differs c.args.opened.now.element.now.local_name (codes "author") (λ e. c.in_default.not-author (c.as_str.ensures ∙ e)), differs c.args.opened.now.element.now.local_name (codes "committer") (λ e. c.in_default.not-committer (c.as_str.ensures ∙ e)), differs c.args.opened.now.element.now.local_name (codes "message") (λ e. c.in_default.not-message (c.as_str.ensures ∙ e))) refl)
