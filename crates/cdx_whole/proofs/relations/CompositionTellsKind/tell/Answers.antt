use Rattle.std.proofs.Common.{inr, refl}
use Rattle.cdx_schema.specs.Kinds.{assemblies, composed, vulnerabilities}
use Rattle.cdx_schema.specs.Table.{rows, list}
use Rattle.cdx_whole.proofs.relations.CompositionTellsKind.tell.Goals as goal

pub returns : goal.returns
unfolding rows list
returns c = (refl, (c.tell_row.ensures, (inr c.tell.ensures, (c.tell_list_row.ensures assemblies refl, (c.tell_list_row-2.ensures composed refl, (c.tell_list_row-3.ensures vulnerabilities refl, (c.tell_row-2.ensures, tt)))))))
