-- Records of attributes and exactly one text: nothing is missing at their end.
use Rattle.std.specs.Prelude.{◌≡◌, refl, ℕ, List, Option, Ok}
use Rattle.cdx_models.specs.declared.bom.SpecVersion.{SpecVersion}
use Rattle.cdx_models.specs.Trees.{attached_text, text, with_field}
use Rattle.cdx_schema.specs.Table.{rows}
use Rattle.cdx_schema.specs.XmlReading.{ended}
use Rattle.cdx_leaf.specs.Parts.{attached_start}

pub attached_whole : (s : Option (List ℕ) × Option (List ℕ)) (t : List ℕ) (v : SpecVersion) (el : List ℕ) (q : ℕ) → ended (rows attached_text) (with_field 2 (text t) (attached_start s)) v el q ≡ Ok (with_field 2 (text t) (attached_start s))
unfolding rows ended
attached_whole s t v el q = refl
