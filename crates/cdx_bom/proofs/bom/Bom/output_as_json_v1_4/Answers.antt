use Rattle.std.proofs.Common.{refl}
use Rattle.cdx_models.specs.declared.bom.SpecVersion.TheVariants.{V1_4}
use Rattle.cdx_bom.specs.Trees.{bom_tree}
use Rattle.cdx_bom.proofs.Outputs.{always_makes}
use Rattle.cdx_bom.proofs.bom.Bom.output_as_json_v1_4.Goals as goal

pub returns : goal.returns
returns c = always_makes _ c.output_json.result V1_4 (bom_tree c.args.self.now) refl c.output_json.ensures
