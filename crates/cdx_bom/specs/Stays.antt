-- A bill and its label stay there in every version.
use Rattle.std.specs.Prelude.{◌≡◌, refl, false}
use Rattle.cdx_models.specs.declared.bom.SpecVersion.{SpecVersion}
use Rattle.cdx_models.specs.declared.bom.SpecVersion.TheVariants.{V1_3, V1_4, V1_5}
use Rattle.cdx_models.specs.Trees.{bill, Trees, fields, is_absent}
use Rattle.cdx_schema.specs.Kinds.{a_version, a_bill}
use Rattle.cdx_schema.specs.Keeping.{kept}
use Rattle.cdx_bom.specs.Trees.{bom_tree}
use Rattle.cdx_bom.specs.Labels.{named_tree}
use Rattle.cdx_bom.specs.declared.bom.Bom.{Bom}
use Rattle.cdx_bom.specs.declared.json.label.Label.{Label}

fields_stay : (w l : SpecVersion) (ts : Trees) → is_absent (kept w l (fields bill ts) a_bill) ≡ false
unfolding kept
fields_stay V1_3 l ts = refl
fields_stay V1_4 l ts = refl
fields_stay V1_5 l ts = refl

pub kept_bill_there : (w l : SpecVersion) (x : Bom) → is_absent (kept w l (bom_tree x) a_bill) ≡ false
kept_bill_there w l x = fields_stay w l _

pub label_stays : (w l : SpecVersion) (x : Label) → is_absent (kept w l (named_tree x) a_version) ≡ false
unfolding kept
label_stays w l x = refl
