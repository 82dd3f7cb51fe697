use Rattle.std.proofs.Common.{refl}
use Rattle.cdx_schema.specs.Trips.{settled}
use Rattle.cdx_bom.proofs.Settled.{none_and_tools, tools_and_none}
use Rattle.cdx_bom.proofs.bom.settled.same_tools_row.Goals as goal

pub returns-in-None-None : goal.returns-in-None-None
unfolding settled
returns-in-None-None c = rw (c.in-None-None.is-0, c.in-None-None.is-1) refl

pub returns-in-None-Some : goal.returns-in-None-Some
returns-in-None-Some c = rw (c.in-None-Some.is-0, c.in-None-Some.is-1) (none_and_tools c.in-None-Some.field-0-1)

pub returns-in-Some-None : goal.returns-in-Some-None
returns-in-Some-None c = rw (c.in-Some-None.is-0, c.in-Some-None.is-1) (tools_and_none c.in-Some-None.field-0-0)
