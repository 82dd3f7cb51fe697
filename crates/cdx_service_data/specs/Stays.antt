-- What a version keeps of a service's data is there.
use Rattle.std.specs.Prelude.{◌≡◌, refl, false}
use Rattle.cdx_models.specs.declared.bom.SpecVersion.{SpecVersion}
use Rattle.cdx_models.specs.Trees.{is_absent}
use Rattle.cdx_schema.specs.Kinds.{a_data}
use Rattle.cdx_schema.specs.Keeping.{kept}
use Rattle.cdx_service_data.specs.Records.{data_tree}
use Rattle.cdx_service_data.specs.declared.service.Data.{Data}
use Rattle.cdx_service_data.specs.declared.service.Data.TheVariants as variant

pub data_stays : (w l : SpecVersion) (x : Data) → is_absent (kept w l (data_tree x) a_data) ≡ false
unfolding kept
data_stays w l (variant.Classification xs) = refl
data_stays w l (variant.ServiceData xs) = refl
