use Rattle.std.proofs.lemmas.Bool.Decides.{same_from_decides}
use Rattle.cdx_models.specs.EqualLaws.{equal-Decides}
use Rattle.cdx_bom.specs.Trees.{bom_tree}
use Rattle.cdx_canon.specs.Canon.{plain}
use Rattle.cdx_canon.specs.Answers.{is_equal}
use Rattle.cdx_canon.proofs.comparing.is_same_text.Goals as goal

pub returns : goal.returns
returns c =
    let left = bom_tree c.args.left in
    let right = bom_tree c.args.right in
    same_from_decides c.same.result (is_equal left right) c.same.ensures (equal-Decides (plain left) (plain right))
