use Rattle.std.proofs.Common.{inr, refl}
use Rattle.cdx_schema.specs.Table.{rows}
use Rattle.cdx_whole.proofs.leaves.HashTellsKind.tell.Goals as goal

pub returns : goal.returns
unfolding rows
returns c = (refl, (inr c.tell.ensures, (inr c.tell-2.ensures, tt)))
