-- What was printed of a long text.
use Rattle.std.specs.Prelude.{ℕ, List, ◌++◌, string_bytes}
use Rattle.cdx_print.specs.declared.printed.Printed.{Printed}

-- its pieces, and what stands behind them
abbrev pub printed : Printed → List ℕ
printed p = p.pieces ++ string_bytes p.last
