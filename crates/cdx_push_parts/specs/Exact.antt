-- Records of attributes and exactly one text: nothing is missing at their end.
use Rattle.std.specs.Prelude.{◌≡◌, refl, ℕ, List, Ok}
use Rattle.cdx_models.specs.declared.bom.SpecVersion.{SpecVersion}
use Rattle.cdx_models.specs.Trees.{spdx_id, license_name, text, absent, one, Trees, with_field}
use Rattle.cdx_schema.specs.Table.{rows}
use Rattle.cdx_schema.specs.XmlReading.{ended}

-- no attribute stands before the text of an identifier
abbrev pub nothing_begun : Unit {0} → Trees
nothing_begun s = one absent

pub id_whole : (s : Unit {0}) (t : List ℕ) (v : SpecVersion) (el : List ℕ) (q : ℕ) → ended (rows spdx_id) (with_field 0 (text t) (nothing_begun s)) v el q ≡ Ok (with_field 0 (text t) (nothing_begun s))
unfolding rows ended
id_whole s t v el q = refl

pub name_whole : (s : Unit {0}) (t : List ℕ) (v : SpecVersion) (el : List ℕ) (q : ℕ) → ended (rows license_name) (with_field 0 (text t) (nothing_begun s)) v el q ≡ Ok (with_field 0 (text t) (nothing_begun s))
unfolding rows ended
name_whole s t v el q = refl
