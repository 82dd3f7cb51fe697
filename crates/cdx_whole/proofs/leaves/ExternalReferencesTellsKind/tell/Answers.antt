use Rattle.cdx_schema.specs.Table.{list}
use Rattle.cdx_whole.proofs.leaves.ExternalReferencesTellsKind.tell.Goals as goal

pub returns : goal.returns
unfolding list
returns c = (tt, c.tell_list.ensures)
