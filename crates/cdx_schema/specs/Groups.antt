-- Wide records, in groups of six rows.
use Rattle.std.specs.Prelude.{ℕ, ◌*◌, List, take, drop}
use Rattle.cdx_models.specs.Trees.{Name}
use Rattle.cdx_schema.specs.Kinds.{Row}
use Rattle.cdx_schema.specs.Table.{rows}

-- the i-th six rows of a record, the first being the 0-th
abbrev pub group : ℕ → Name → List Row
group i n = take 6 (drop (6 * i) (rows n))
