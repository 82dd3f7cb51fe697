use Rattle.cdx_push.proofs.leaf.LeafLeaves.step.Goals as goal

pub returns-in-Entity-clause-proceeds : goal.returns-in-Entity-clause-proceeds
returns-in-Entity-clause-proceeds c = rw c.in-Entity.is c.step-in-Entity.ensures
