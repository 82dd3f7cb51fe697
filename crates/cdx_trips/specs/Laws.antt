-- What survives a trip, as a statement.
use Rattle.std.specs.Prelude.{◌≡◌, true, Ok}
use Rattle.cdx_models.specs.declared.bom.SpecVersion.{SpecVersion}
use Rattle.cdx_models.specs.Trees.{Tree}
use Rattle.cdx_schema.specs.Kinds.{a_bill}
use Rattle.cdx_schema.specs.Keeping.{keep}
use Rattle.cdx_schema.specs.Laws.{HasBillShape, IsShallow, Fits}
use Rattle.cdx_schema.specs.XmlReading.{xml_denotes}
use Rattle.cdx_schema.specs.XmlSpelling.{root}
use Rattle.cdx_trips.specs.Surviving.{survives}

-- Where what a version keeps survives, its XML spelling denotes just that.
abbrev pub ComesBack : Type 0
ComesBack = (b : Tree) (w : SpecVersion) → HasBillShape b → IsShallow b → Fits w b → survives (keep w b a_bill) a_bill ≡ true
    → xml_denotes (root (keep w b a_bill) w) w ≡ Ok (keep w b a_bill)
