use Rattle.cdx_schema.specs.Table.{rows}
use Rattle.cdx_whole.proofs.components.tell_marks.Goals as goal

pub returns : goal.returns
unfolding rows
returns c = (c.tell_row.ensures, (c.tell_row-2.ensures, (c.tell_row-3.ensures, (c.tell_row-4.ensures, (c.tell_row-5.ensures, (c.tell_row-6.ensures, tt))))))
