-- Nothing is missing at the end of a copyright.
use Rattle.std.specs.Prelude.{◌≡◌, refl, ℕ, List, Ok}
use Rattle.cdx_models.specs.declared.bom.SpecVersion.{SpecVersion}
use Rattle.cdx_models.specs.Trees.{text, with_field, copyright}
use Rattle.cdx_schema.specs.Table.{rows}
use Rattle.cdx_schema.specs.XmlReading.{ended}
use Rattle.cdx_component_parts.specs.Parts.{no_copyright_fields}

pub copyright_whole : (s : Unit {0}) (t : List ℕ) (v : SpecVersion) (el : List ℕ) (q : ℕ) → ended (rows copyright) (with_field 0 (text t) (no_copyright_fields s)) v el q ≡ Ok (with_field 0 (text t) (no_copyright_fields s))
unfolding rows ended
copyright_whole s t v el q = refl
