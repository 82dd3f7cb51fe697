use Rattle.std.proofs.Common.{inr, refl}
use Rattle.cdx_schema.specs.Kinds.{links}
use Rattle.cdx_schema.specs.Table.{rows, list}
use Rattle.cdx_whole.proofs.changes.IssueTellsKind.tell.Goals as goal

pub returns : goal.returns
unfolding rows list
returns c = (refl, (inr c.tell.ensures, (c.tell_row.ensures, (c.tell_row-2.ensures, (c.tell_row-3.ensures, (c.tell_row-4.ensures, (c.tell_list_row.ensures links refl, tt)))))))
