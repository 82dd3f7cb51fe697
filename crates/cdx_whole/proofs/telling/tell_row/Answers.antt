use Rattle.std.proofs.Common.{inl, inr, refl}
use Rattle.cdx_whole.proofs.telling.tell_row.Goals as goal

pub returns-in-None : goal.returns-in-None
returns-in-None g c = rw c.in-None.is (inl (refl, refl))

pub returns-in-Some : goal.returns-in-Some
returns-in-Some g c = rw c.in-Some.is (inr c.tell.ensures)
