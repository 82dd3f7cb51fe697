use Rattle.std.proofs.Common.{◌≡◌, ◌↔◌, IsTrue, sym, subst}
use Rattle.cdx_models.specs.EqualLaws.{equal-Decides}
use Rattle.cdx_models.proofs.tree.HasTree.equals.Goals as goal

pub returns-clause-equality : goal.returns-clause-equality
returns-clause-equality g c =
    let one = g.Self.HasTree.tree c.args.self.now in
    let other = g.Self.HasTree.tree c.args.other.now in
    subst (λ b. IsTrue b ↔ (one ≡ other)) (sym c.agrees.ensures) (equal-Decides one other)
