use Rattle.std.proofs.Common.{◌∙◌}
use Rattle.std.specs.Prelude.{codes}
use Rattle.cdx_schema.specs.Table.{rows, list}
use Rattle.cdx_leaf.proofs.ChildSteps.{differs}
use Rattle.cdx_component.proofs.frames.names.find_naming.Goals as goal

pub returns-in_default : goal.returns-in_default
unfolding rows list
returns-in_default c = λ ts.
    rw (differs c.args.name.now.local_name (codes "group") (λ e. c.in_default.not-group (c.as_str.ensures ∙ e)), differs c.args.name.now.local_name (codes "name") (λ e. c.in_default.not-name (c.as_str.ensures ∙ e)), differs c.args.name.now.local_name (codes "version") (λ e. c.in_default.not-version (c.as_str.ensures ∙ e)), differs c.args.name.now.local_name (codes "description") (λ e. c.in_default.not-description (c.as_str.ensures ∙ e)), differs c.args.name.now.local_name (codes "scope") (λ e. c.in_default.not-scope (c.as_str.ensures ∙ e)), differs c.args.name.now.local_name (codes "hashes") (λ e. c.in_default.not-hashes (c.as_str.ensures ∙ e))) (c.find_marks.ensures ts)
