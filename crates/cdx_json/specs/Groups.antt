-- Wide records, read from JSON in groups of six rows.
use Rattle.std.specs.Prelude.{ℕ, Result, Ok}
use Rattle.cdx_models.specs.declared.bom.SpecVersion.{SpecVersion}
use Rattle.cdx_models.specs.Trees.{Name, Trees}
use Rattle.cdx_schema.specs.Depth.{Depth}
use Rattle.cdx_schema.specs.Faults.{JsonFault}
use Rattle.cdx_schema.specs.Groups.{group}
use Rattle.cdx_schema.specs.JsonReading.{Object}
use Rattle.cdx_json.specs.ByRows.{rows_made, own_made}

abbrev pub group_read : ℕ → Name → Object → SpecVersion → Depth → Result Trees JsonFault
group_read i n o v d = rows_made o (own_made o v d) (group i n) v d (λ ts. Ok ts)
