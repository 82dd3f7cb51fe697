-- A signature stays there, whatever version keeps it.
use Rattle.std.specs.Prelude.{◌≡◌, false}
use Rattle.cdx_models.specs.declared.bom.SpecVersion.{SpecVersion}
use Rattle.cdx_models.specs.Trees.{is_absent}
use Rattle.cdx_signature.specs.Records.{signature_tree}
use Rattle.cdx_signature.specs.declared.signature.Signature.{Signature}
use Rattle.cdx_signature.specs.declared.signature.Signature.TheVariants as variant
use Rattle.cdx_schema.specs.Kinds.{a_signature}
use Rattle.cdx_schema.specs.Keeping.{kept}
use Rattle.cdx_json.specs.Stays.{signature_fields_stay}

pub signature_stays : (w l : SpecVersion) (x : Signature) → is_absent (kept w l (signature_tree x) a_signature) ≡ false
signature_stays w l (variant.Signers xs) = signature_fields_stay w l _ _
signature_stays w l (variant.Chain xs) = signature_fields_stay w l _ _
signature_stays w l (variant.Single x) = signature_fields_stay w l _ _
