-- The three versions, from the lowest on.
use Rattle.std.specs.Prelude.{ℕ, List, Bool, true, false, codes, if◌then◌else◌, Option, Some, None}
use Rattle.std.specs.Str.{bytes_eq}
use Rattle.cdx_models.specs.declared.bom.SpecVersion.{SpecVersion}
use Rattle.cdx_models.specs.declared.bom.SpecVersion.TheVariants.{V1_3, V1_4, V1_5}

-- Something that is there from `since` on is known to `v`.
abbrev pub knows : SpecVersion → SpecVersion → Bool
knows V1_3 v = true
knows V1_4 V1_3 = false
knows V1_4 V1_4 = true
knows V1_4 V1_5 = true
knows V1_5 V1_3 = false
knows V1_5 V1_4 = false
knows V1_5 V1_5 = true

abbrev pub lowest : SpecVersion → SpecVersion → SpecVersion
lowest V1_3 w = V1_3
lowest V1_4 V1_3 = V1_3
lowest V1_4 V1_4 = V1_4
lowest V1_4 V1_5 = V1_4
lowest V1_5 w = w

abbrev pub is_first : SpecVersion → Bool
is_first V1_3 = true
is_first V1_4 = false
is_first V1_5 = false

abbrev pub label : SpecVersion → List ℕ
label V1_3 = codes "1.3"
label V1_4 = codes "1.4"
label V1_5 = codes "1.5"

-- the version with a label
abbrev pub version_of : List ℕ → Option SpecVersion
version_of s = if bytes_eq s (label V1_3) then Some V1_3 else (if bytes_eq s (label V1_4) then Some V1_4 else (if bytes_eq s (label V1_5) then Some V1_5 else None))

-- the text is the label of a version
abbrev pub is_label : List ℕ → Bool
is_label s = if bytes_eq s (label V1_3) then true else (if bytes_eq s (label V1_4) then true else bytes_eq s (label V1_5))

-- the default namespace of a document of the version
abbrev pub namespace : SpecVersion → List ℕ
namespace V1_3 = codes "http://cyclonedx.org/schema/bom/1.3"
namespace V1_4 = codes "http://cyclonedx.org/schema/bom/1.4"
namespace V1_5 = codes "http://cyclonedx.org/schema/bom/1.5"
