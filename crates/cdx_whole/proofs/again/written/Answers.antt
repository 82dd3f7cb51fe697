use Rattle.serde_json.specs.View.{view}
use Rattle.cdx_bom.specs.Trees.{bom_tree}
use Rattle.cdx_whole.proofs.Back.{denotes_kept}
use Rattle.cdx_whole.proofs.again.written.Goals as goal

pub returns-in-Ok : goal.returns-in-Ok
returns-in-Ok c =
    denotes_kept c.reads_back_json.ensures (bom_tree c.args.bill.now) c.is_a_bill.ensures.shape c.requires (view c.in-Ok.document) c.in-Ok.ensures
