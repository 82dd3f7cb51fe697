-- An expression whose content is read misses nothing at its end.
use Rattle.std.specs.Prelude.{◌≡◌, refl, ℕ, List, Option, Ok}
use Rattle.cdx_models.specs.declared.bom.SpecVersion.{SpecVersion}
use Rattle.cdx_models.specs.Trees.{text, with_field, expression}
use Rattle.cdx_schema.specs.Table.{rows}
use Rattle.cdx_schema.specs.XmlReading.{ended}
use Rattle.cdx_license.specs.Parts.{reference_alone}

pub expression_whole : (s : Option (List ℕ)) (t : List ℕ) (v : SpecVersion) (el : List ℕ) (q : ℕ) → ended (rows expression) (with_field 1 (text t) (reference_alone s)) v el q ≡ Ok (with_field 1 (text t) (reference_alone s))
unfolding rows ended
expression_whole s t v el q = refl
