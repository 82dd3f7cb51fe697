-- Records whose content is a text miss nothing at their end.
use Rattle.std.specs.Prelude.{◌≡◌, refl, ℕ, List, Ok}
use Rattle.cdx_models.specs.declared.bom.SpecVersion.{SpecVersion}
use Rattle.cdx_models.specs.Trees.{text, with_field, hash, property}
use Rattle.cdx_schema.specs.Table.{rows}
use Rattle.cdx_schema.specs.XmlReading.{ended}
use Rattle.cdx_leaf.specs.Parts.{text_alone}

pub hash_whole : (s t : List ℕ) (v : SpecVersion) (el : List ℕ) (q : ℕ) → ended (rows hash) (with_field 1 (text t) (text_alone s)) v el q ≡ Ok (with_field 1 (text t) (text_alone s))
unfolding rows ended
hash_whole s t v el q = refl

pub property_whole : (s t : List ℕ) (v : SpecVersion) (el : List ℕ) (q : ℕ) → ended (rows property) (with_field 1 (text t) (text_alone s)) v el q ≡ Ok (with_field 1 (text t) (text_alone s))
unfolding rows ended
property_whole s t v el q = refl
