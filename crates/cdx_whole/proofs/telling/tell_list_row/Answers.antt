use Rattle.std.proofs.Common.{inl, inr, refl, sym, subst}
use Rattle.cdx_models.specs.Trees.{each}
use Rattle.cdx_whole.specs.Fields.{AreOf}
use Rattle.cdx_whole.proofs.telling.tell_list_row.Goals as goal

pub returns-in-None : goal.returns-in-None
returns-in-None g c = λ l e. rw c.in-None.is (inl (refl, refl))

pub returns-in-Some : goal.returns-in-Some
returns-in-Some g c = λ l e. rw c.in-Some.is (inr (tt, subst (λ k. AreOf (each g.T.HasTree.tree c.in-Some.held) k) (sym e) c.tell_list.ensures))
