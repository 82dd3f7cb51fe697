-- What the check unfolds of a record's rows, and of a text, a boolean and a number.
use Rattle.std.specs.Prelude.{⊤}
use Rattle.cdx_schema.specs.Table.{rows, list}
use Rattle.cdx_schema.specs.Keeping.{kept}
use Rattle.cdx_schema.specs.JsonSpelling.{jspell}
use Rattle.cdx_json.specs.ByRows.{rows_made}
use Rattle.cdx_json.specs.KeptRows.{rows_held, rows_put}

-- of the rows that are read, kept and put
unfoldable pub on_rows : ⊤
unfolding rows list rows_made rows_held rows_put
on_rows = tt

-- of what is kept and spelled
unfoldable pub on_spelled : ⊤
unfolding kept jspell
on_spelled = tt
