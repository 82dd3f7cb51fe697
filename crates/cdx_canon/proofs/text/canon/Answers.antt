use Rattle.std.proofs.Common.{ap, ◌∙◌}
use Rattle.serde_json.specs.Written.{compact_text, has_float}
use Rattle.cdx_models.specs.declared.bom.SpecVersion.TheVariants.{V1_5}
use Rattle.cdx_schema.specs.Kinds.{a_bill}
use Rattle.cdx_schema.proofs.Clear.{spelling_clear}
use Rattle.cdx_bom.specs.Trees.{bom_tree}
use Rattle.cdx_canon.specs.Canon as texts
use Rattle.cdx_canon.proofs.text.canon.Goals as goal

pub returns : goal.returns
returns c =
    let made = c.in_ok-value.ensures in
    c.from_string.ensures ∙ c.in_ok-text.ensures.text (ap has_float made ∙ spelling_clear (texts.plain (bom_tree c.args.bill.now)) V1_5 a_bill) ∙ ap compact_text made
