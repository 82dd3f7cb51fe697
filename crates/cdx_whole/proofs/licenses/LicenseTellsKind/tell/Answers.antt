use Rattle.std.proofs.Common.{inr, refl}
use Rattle.cdx_schema.specs.Table.{rows}
use Rattle.cdx_whole.proofs.licenses.LicenseTellsKind.tell.Goals as goal

pub returns : goal.returns
unfolding rows
returns c = (refl, (c.tell_row.ensures, (inr c.tell.ensures, (c.tell_row-2.ensures, (c.tell_row-3.ensures, (c.tell_row-4.ensures, tt))))))
