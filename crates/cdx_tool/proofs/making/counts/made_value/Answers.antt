use Rattle.std.proofs.Common.{◌≡◌, subst}
use Rattle.std.specs.Prelude.{IfOk}
use Rattle.serde_json.specs.View.{view}
use Rattle.cdx_models.specs.Trees.{Tree}
use Rattle.cdx_models.specs.declared.bom.SpecVersion.TheVariants.{V1_5}
use Rattle.cdx_schema.specs.JsonSpelling.{jspell}
use Rattle.cdx_schema.specs.Keeping.{keep}
use Rattle.cdx_schema.specs.Kinds.{a_bill}
use Rattle.cdx_tool.proofs.making.counts.made_value.Goals as goal

pub returns : goal.returns
returns c = subst (λ (t : Tree). IfOk c.to_value-value.result (λ v. view v ≡ jspell (keep V1_5 t a_bill) V1_5 a_bill)) c.in_ok-bom.ensures c.to_value-value.ensures
