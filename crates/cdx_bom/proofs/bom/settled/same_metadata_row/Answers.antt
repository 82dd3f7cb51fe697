use Rattle.std.proofs.Common.{refl}
use Rattle.cdx_schema.specs.Trips.{settled}
use Rattle.cdx_bom.proofs.bom.settled.same_metadata_row.Goals as goal

pub returns-in-None-None : goal.returns-in-None-None
unfolding settled
returns-in-None-None c = rw (c.in-None-None.is-0, c.in-None-None.is-1) refl

pub returns-in-None-Some : goal.returns-in-None-Some
unfolding settled
returns-in-None-Some c = rw (c.in-None-Some.is-0, c.in-None-Some.is-1) refl

pub returns-in-Some-None : goal.returns-in-Some-None
unfolding settled
returns-in-Some-None c = rw (c.in-Some-None.is-0, c.in-Some-None.is-1) refl
