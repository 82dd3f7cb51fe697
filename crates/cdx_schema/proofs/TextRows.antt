-- Worked rows whose JSON is given as text.
use Prim.Native.String.{String}
use Rattle.std.specs.Prelude.{◌≡◌, refl, List, [], ◌∷◌, codes, Result, Err, Option, Some, option_map}
use Rattle.serde_json.specs.Read.{read}
use Rattle.serde_json.proofs.OnLiterals.{serde_json_on_literals}
use Rattle.cdx_models.specs.declared.bom.SpecVersion.{SpecVersion}
use Rattle.cdx_models.specs.declared.bom.SpecVersion.TheVariants.{V1_5}
use Rattle.cdx_models.specs.Trees.{Tree}
use Rattle.cdx_models.specs.declared.errors.Step.{Step}
use Rattle.cdx_models.specs.declared.errors.JsonKind.{JsonKind}
use Rattle.cdx_schema.specs.Faults.{JsonFault, to_member, to_item, missing, is_float}
use Rattle.cdx_schema.specs.JsonReading.{json_denotes}
use Rattle.cdx_schema.proofs.Literals.{reading_on_literals}

abbrev denoted : SpecVersion → String → Option (Result Tree JsonFault)
denoted v s = option_map (λ d. json_denotes d v) (read (codes s))

abbrev refused : List Step → JsonKind → Option (Result Tree JsonFault)
refused p c = Some (Err (record { path = p; cause = c }))

a_float : denoted V1_5 "{\"specVersion\":\"1.5\",\"version\":1,\"extra\":{\"confidence\":0.5}}" ≡ refused (to_member (codes "extra") ∷ to_member (codes "confidence") ∷ []) is_float
unfolding reading_on_literals serde_json_on_literals
a_float = refl

no_format : denoted V1_5 "{\"specVersion\":\"1.5\",\"version\":1,\"extra\":{\"confidence\":5}}" ≡ refused (to_member (codes "bomFormat") ∷ []) missing
unfolding reading_on_literals serde_json_on_literals
no_format = refl

beside_a_license : denoted V1_5 "{\"bomFormat\":\"CycloneDX\",\"specVersion\":\"1.5\",\"version\":1,\"components\":[{\"type\":\"library\",\"name\":\"a\",\"licenses\":[{\"license\":{\"id\":\"MIT\"},\"note\":1}]}]}"
    ≡ refused (to_member (codes "components") ∷ to_item 0 ∷ to_member (codes "licenses") ∷ to_item 0 ∷ to_member (codes "expression") ∷ []) missing
unfolding reading_on_literals serde_json_on_literals
beside_a_license = refl
