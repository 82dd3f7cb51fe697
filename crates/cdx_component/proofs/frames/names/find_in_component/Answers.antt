use Rattle.std.proofs.Common.{◌∙◌}
use Rattle.std.specs.Prelude.{codes}
use Rattle.cdx_schema.specs.Table.{rows, list}
use Rattle.cdx_leaf.proofs.ChildSteps.{differs}
use Rattle.cdx_component.proofs.frames.names.find_in_component.Goals as goal

pub returns-in_default : goal.returns-in_default
unfolding rows list
returns-in_default c = λ ts.
    rw (differs c.args.name.now.local_name (codes "supplier") (λ e. c.in_default.not-supplier (c.as_str.ensures ∙ e)), differs c.args.name.now.local_name (codes "author") (λ e. c.in_default.not-author (c.as_str.ensures ∙ e)), differs c.args.name.now.local_name (codes "publisher") (λ e. c.in_default.not-publisher (c.as_str.ensures ∙ e))) (c.find_naming.ensures ts)
