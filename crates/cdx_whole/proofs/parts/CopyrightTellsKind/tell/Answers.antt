use Rattle.std.proofs.Common.{inr, refl}
use Rattle.cdx_schema.specs.Table.{rows}
use Rattle.cdx_whole.proofs.parts.CopyrightTellsKind.tell.Goals as goal

pub returns : goal.returns
unfolding rows
returns c = (refl, (inr c.tell.ensures, tt))
