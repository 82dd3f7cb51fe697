use Rattle.std.proofs.Common.{refl}
use Rattle.cdx_schema.specs.Kinds.{endpoints}
use Rattle.cdx_schema.specs.Table.{rows, list}
use Rattle.cdx_whole.proofs.services.tell_access.Goals as goal

pub returns : goal.returns
unfolding rows list
returns c = (c.tell_list_row.ensures endpoints refl, (c.tell_row.ensures, (c.tell_row-2.ensures, (c.tell_row-3.ensures, (c.tell_row-4.ensures, (c.tell_row-5.ensures, tt))))))
