use Rattle.cdx_losses.proofs.Gone.{SoFar}
use Rattle.cdx_losses.proofs.leaves.hollow.are_blank.Given as goal

-- none so far is written
abbrev pub invariant-loop-contact : goal.invariant-loop-contact
invariant-loop-contact l = SoFar l.contacts l.contact-index
