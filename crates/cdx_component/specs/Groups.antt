-- Components, read in groups of six rows.
use Rattle.std.specs.Prelude.{Result}
use Rattle.cdx_models.specs.declared.bom.SpecVersion.{SpecVersion}
use Rattle.cdx_models.specs.Trees.{component, Tree, ◌⧺◌}
use Rattle.cdx_schema.specs.Depth.{Depth}
use Rattle.cdx_schema.specs.Results.{◌>>=◌}
use Rattle.cdx_schema.specs.Faults.{JsonFault}
use Rattle.cdx_schema.specs.JsonReading.{Object}
use Rattle.cdx_json.specs.ByRows.{as_record}
use Rattle.cdx_json.specs.Groups.{group_read}

unfoldable pub component_by_groups : Object → SpecVersion → Depth → Result Tree JsonFault
component_by_groups o v d = group_read 0 component o v d >>= λ a. group_read 1 component o v d >>= λ b. group_read 2 component o v d >>= λ c. group_read 3 component o v d >>= λ e. as_record component (a ⧺ (b ⧺ (c ⧺ e)))
