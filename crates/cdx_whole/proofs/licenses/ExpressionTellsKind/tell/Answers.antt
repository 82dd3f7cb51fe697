use Rattle.std.proofs.Common.{inr, refl}
use Rattle.cdx_schema.specs.Table.{rows}
use Rattle.cdx_whole.proofs.licenses.ExpressionTellsKind.tell.Goals as goal

pub returns : goal.returns
unfolding rows
returns c = (refl, (c.tell_row.ensures, (inr c.tell.ensures, tt)))
