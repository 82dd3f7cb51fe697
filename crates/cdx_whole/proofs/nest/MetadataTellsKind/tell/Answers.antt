use Rattle.std.proofs.Common.{refl}
use Rattle.cdx_schema.specs.Kinds.{authors}
use Rattle.cdx_schema.specs.Table.{rows, list}
use Rattle.cdx_whole.proofs.nest.MetadataTellsKind.tell.Goals as goal

pub returns : goal.returns
unfolding rows list
returns c = (refl, (c.tell_row.ensures, (c.tell_row-2.ensures, (c.tell_list_row.ensures authors refl, (c.tell_row-3.ensures, (c.tell_row-4.ensures, (c.tell_row-5.ensures, (c.tell_row-6.ensures, (c.tell_row-7.ensures, tt)))))))))
