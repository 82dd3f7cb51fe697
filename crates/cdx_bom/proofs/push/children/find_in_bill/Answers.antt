use Rattle.std.proofs.Common.{◌∙◌}
use Rattle.std.specs.Prelude.{codes}
use Rattle.cdx_schema.specs.Table.{rows, list}
use Rattle.cdx_leaf.proofs.ChildSteps.{differs}
use Rattle.cdx_bom.proofs.push.children.find_in_bill.Goals as goal

pub returns-in_default : goal.returns-in_default
unfolding rows list
returns-in_default c = λ ts.
    rw (differs c.args.name.now.local_name (codes "metadata") (λ e. c.in_default.not-metadata (c.as_str.ensures ∙ e)), differs c.args.name.now.local_name (codes "components") (λ e. c.in_default.not-components (c.as_str.ensures ∙ e)), differs c.args.name.now.local_name (codes "services") (λ e. c.in_default.not-services (c.as_str.ensures ∙ e))) (c.find_relation.ensures ts)
