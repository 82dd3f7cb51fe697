-- What the check takes for a record's rows.
use Rattle.std.specs.Prelude.{⊤}
use Rattle.cdx_schema.specs.Table.{rows, list}
use Rattle.cdx_write.specs.WrittenRows.{attributes_written, rows_written}
use Rattle.cdx_write.proofs.Appended.{first_fails, then_all, last_row}

-- what it unfolds
unfoldable pub on_rows : ⊤
unfolding rows list attributes_written rows_written
on_rows = tt

-- what it cites for rows that are written one after the other; past four of them the last return wants an answer
pub ruleset in_turn = (first_fails, then_all, last_row)
