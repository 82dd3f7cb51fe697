use Rattle.std.proofs.Common.{refl}
use Rattle.cdx_schema.specs.Kinds.{urls, contacts}
use Rattle.cdx_schema.specs.Table.{rows, list}
use Rattle.cdx_whole.proofs.leaves.OrganizationalEntityTellsKind.tell.Goals as goal

pub returns : goal.returns
unfolding rows list
returns c = (refl, (c.tell_row.ensures, (c.tell_row-2.ensures, (c.tell_list_row.ensures urls refl, (c.tell_list_row-2.ensures contacts refl, tt)))))
