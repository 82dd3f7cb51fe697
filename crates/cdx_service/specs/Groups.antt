-- Services, read in groups of six rows.
use Rattle.std.specs.Prelude.{◌*◌, Result}
use Rattle.cdx_models.specs.declared.bom.SpecVersion.{SpecVersion}
use Rattle.cdx_models.specs.Trees.{service, Tree, ◌⧺◌}
use Rattle.cdx_schema.specs.Table.{rows}
use Rattle.cdx_schema.specs.Depth.{Depth}
use Rattle.cdx_schema.specs.Results.{◌>>=◌}
use Rattle.cdx_schema.specs.Faults.{JsonFault}
use Rattle.cdx_schema.specs.JsonReading.{Object}
use Rattle.cdx_json.specs.ByRows.{as_record}
use Rattle.cdx_json.specs.Groups.{group_read}

unfoldable pub service_by_groups : Object → SpecVersion → Depth → Result Tree JsonFault
service_by_groups o v d = group_read 0 service o v d >>= λ a. group_read 1 service o v d >>= λ b. group_read 2 service o v d >>= λ c. as_record service (a ⧺ (b ⧺ c))
