use Rattle.std.proofs.Common.{refl}
use Rattle.cdx_schema.specs.Table.{rows, list}
use Rattle.cdx_whole.proofs.nest.ToolsTellsKind.tell.Goals as goal

pub returns-in-List : goal.returns-in-List
unfolding list
returns-in-List c = rw c.in-List.is (tt, c.tell_list.ensures)

pub returns-in-Object : goal.returns-in-Object
unfolding rows
returns-in-Object c = rw c.in-Object.is (refl, (c.tell_row.ensures, (c.tell_row-in-Object.ensures, tt)))
