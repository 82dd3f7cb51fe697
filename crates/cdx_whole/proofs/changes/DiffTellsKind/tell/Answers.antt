use Rattle.std.proofs.Common.{refl}
use Rattle.cdx_schema.specs.Table.{rows}
use Rattle.cdx_whole.proofs.changes.DiffTellsKind.tell.Goals as goal

pub returns : goal.returns
unfolding rows
returns c = (refl, (c.tell_row.ensures, (c.tell_row-2.ensures, tt)))
