use Rattle.cdx_bom.specs.Trees.{bom_tree}
use Rattle.cdx_uses.proofs.Libraries.{made_back}
use Rattle.cdx_uses.proofs.building.library_document.Goals as goal

pub returns : goal.returns
returns c =
    made_back c.reads_back_json.ensures (bom_tree c.in-Ok.bill) c.args.name.now c.args.version.now c.in-Ok.ensures c.output_as_json_v1_5.result c.output_as_json_v1_5.ensures
