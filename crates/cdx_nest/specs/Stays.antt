-- What is there of tools stays there in every version.
use Rattle.std.proofs.Common.{◌≡◌, false, refl}
use Rattle.cdx_models.specs.declared.bom.SpecVersion.{SpecVersion}
use Rattle.cdx_models.specs.declared.bom.SpecVersion.TheVariants.{V1_3, V1_4, V1_5}
use Rattle.cdx_models.specs.Trees.{tools_object, Trees, items, fields, is_absent}
use Rattle.cdx_schema.specs.Kinds.{a_tools}
use Rattle.cdx_schema.specs.Keeping.{kept}
use Rattle.cdx_nest.specs.declared.tools.Tools.{Tools}
use Rattle.cdx_nest.specs.declared.tools.Tools.TheVariants as variant
use Rattle.cdx_nest.specs.Trees.{tools_tree}

object_stays : (w l : SpecVersion) (ts : Trees) → is_absent (kept w l (fields tools_object ts) a_tools) ≡ false
unfolding kept
object_stays V1_3 l ts = refl
object_stays V1_4 l ts = refl
object_stays V1_5 l ts = refl

list_stays_tools : (w l : SpecVersion) (ts : Trees) → is_absent (kept w l (items ts) a_tools) ≡ false
unfolding kept
list_stays_tools w l ts = refl

pub tools_stay : (w l : SpecVersion) (x : Tools) → is_absent (kept w l (tools_tree x) a_tools) ≡ false
tools_stay w l (variant.List ts) = list_stays_tools w l _
tools_stay w l (variant.Object ss cs) = object_stays w l _
