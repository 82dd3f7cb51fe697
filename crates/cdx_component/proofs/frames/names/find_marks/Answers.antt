use Rattle.std.proofs.Common.{◌∙◌}
use Rattle.std.specs.Prelude.{codes}
use Rattle.cdx_schema.specs.Table.{rows, list}
use Rattle.cdx_leaf.proofs.ChildSteps.{differs}
use Rattle.cdx_component.proofs.frames.names.find_marks.Goals as goal

pub returns-in_default : goal.returns-in_default
unfolding rows list
returns-in_default c = λ ts.
    rw (differs c.args.name.now.local_name (codes "licenses") (λ e. c.in_default.not-licenses (c.as_str.ensures ∙ e)), differs c.args.name.now.local_name (codes "copyright") (λ e. c.in_default.not-copyright (c.as_str.ensures ∙ e)), differs c.args.name.now.local_name (codes "cpe") (λ e. c.in_default.not-cpe (c.as_str.ensures ∙ e)), differs c.args.name.now.local_name (codes "purl") (λ e. c.in_default.not-purl (c.as_str.ensures ∙ e)), differs c.args.name.now.local_name (codes "swid") (λ e. c.in_default.not-swid (c.as_str.ensures ∙ e)), differs c.args.name.now.local_name (codes "modified") (λ e. c.in_default.not-modified (c.as_str.ensures ∙ e))) (c.find_contents.ensures ts)
