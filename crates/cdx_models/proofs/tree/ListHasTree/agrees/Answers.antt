use Rattle.std.proofs.Common.{length, sym, ap, ◌∙◌}
use Rattle.cdx_models.proofs.Lists.{equal_each-lengths}
use Rattle.cdx_models.proofs.tree.ListHasTree.agrees.Goals as goal

pub returns-then-one-other : goal.returns-then-one-other
returns-then-one-other g c =
    sym (equal_each-lengths g.T.HasTree.tree c.args.self.now c.args.other.now (λ e. c.if-one-other.true (ap length c.as_slice-one.ensures ∙ e ∙ sym (ap length c.as_slice-other.ensures))))
