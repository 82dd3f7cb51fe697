use Rattle.cdx_models.specs.declared.bom.SpecVersion.TheVariants.{V1_5}
use Rattle.cdx_schema.specs.Kinds.{a_bill}
use Rattle.cdx_schema.proofs.Clear.{spelling_clear}
use Rattle.cdx_bom.specs.Trees.{bom_tree}
use Rattle.cdx_canon.specs.Canon.{plain}
use Rattle.cdx_canon.specs.Answers.{canonical_answer}
use Rattle.cdx_canon.proofs.Replied.{answered}
use Rattle.cdx_canon.proofs.program.answer_bill.Goals as goal

pub returns : goal.returns
returns c =
    let b = bom_tree c.args.bill in
    answered c.answer_value.result 0 _ (canonical_answer b) c.answer_value.ensures c.in_ok-value.ensures (spelling_clear (plain b) V1_5 a_bill)
