use Rattle.cdx_schema.specs.Table.{list}
use Rattle.cdx_whole.proofs.changes.PatchesTellsKind.tell.Goals as goal

pub returns : goal.returns
unfolding list
returns c = (tt, c.tell_list.ensures)
