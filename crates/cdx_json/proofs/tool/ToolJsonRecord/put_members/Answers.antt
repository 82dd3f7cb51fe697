use Rattle.std.proofs.Common.{refl}
use Rattle.cdx_json.proofs.OnRows.{on_rows}
use Rattle.cdx_json.proofs.tool.ToolJsonRecord.put_members.Goals as goal

pub returns : goal.returns
unfolding on_rows
returns c = rw (c.in_ok-put_row_since.ensures, c.in_ok-put_row-4.ensures, c.in_ok-put_row-3.ensures, c.in_ok-put_row-2.ensures, c.in_ok-put_row.ensures) refl
