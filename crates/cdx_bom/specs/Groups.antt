-- A bill, read in groups of six rows after its format.
use Rattle.std.specs.Prelude.{codes, Result}
use Rattle.cdx_models.specs.declared.bom.SpecVersion.{SpecVersion}
use Rattle.cdx_models.specs.Trees.{bill, Tree, text, ◌⧺◌}
use Rattle.cdx_schema.specs.Depth.{Depth}
use Rattle.cdx_schema.specs.Results.{◌>>=◌}
use Rattle.cdx_schema.specs.Faults.{to_member, JsonFault, under}
use Rattle.cdx_schema.specs.JsonReading.{Object, format_read}
use Rattle.cdx_json.specs.ByRows.{as_record}
use Rattle.cdx_json.specs.Groups.{group_read}

-- the one text that a format may be
abbrev pub format_text : {A : Type 0} → A → Tree
format_text x = text (codes "CycloneDX")

abbrev pub format_of : Object → SpecVersion → Depth → Result Tree JsonFault
format_of o v d = under (to_member (codes "bomFormat")) (format_read (o (codes "bomFormat")) v d)

unfoldable pub bill_by_groups : Object → SpecVersion → Depth → Result Tree JsonFault
bill_by_groups o v d = format_of o v d >>= λ t. group_read 0 bill o v d >>= λ a. group_read 1 bill o v d >>= λ b. as_record bill (a ⧺ b)
