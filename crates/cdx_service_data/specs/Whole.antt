-- Nothing is missing at the end of a classification.
use Rattle.std.specs.Prelude.{◌≡◌, refl, ℕ, List, Ok}
use Rattle.cdx_models.specs.declared.bom.SpecVersion.{SpecVersion}
use Rattle.cdx_models.specs.Trees.{text, with_field, classification}
use Rattle.cdx_schema.specs.Table.{rows}
use Rattle.cdx_schema.specs.XmlReading.{ended}
use Rattle.cdx_leaf.specs.Parts.{text_alone}

pub classification_whole : (s t : List ℕ) (v : SpecVersion) (el : List ℕ) (q : ℕ) → ended (rows classification) (with_field 1 (text t) (text_alone s)) v el q ≡ Ok (with_field 1 (text t) (text_alone s))
unfolding rows ended
classification_whole s t v el q = refl
