use Rattle.std.proofs.Common.{◌≡◌, ◌∙◌}
use Rattle.std.proofs.lemmas.Result.{IfOk-weaker}
use Rattle.cdx_models.specs.declared.bom.SpecVersion.TheVariants.{V1_5}
use Rattle.cdx_schema.specs.Kinds.{a_bill}
use Rattle.cdx_schema.specs.Keeping.{keep}
use Rattle.cdx_bom.specs.Trees.{bom_tree}
use Rattle.cdx_whole.specs.Owners.{bill_of_owner}
use Rattle.cdx_whole.proofs.Back.{bill_shallow, bill_kept}
use Rattle.cdx_whole.proofs.owned.owned_bill_again.Goals as goal

pub read_again-requires : goal.read_again-requires
read_again-requires c = bill_shallow (bom_tree c.in_ok-bill.bill) c.args.name.now c.args.id.now c.args.owner.now c.in_ok-bill.ensures

pub returns : goal.returns
returns c =
    let bill = bom_tree c.in_ok-bill.bill in
    let owed = bill_of_owner c.args.name.now c.args.id.now c.args.owner.now in
    IfOk-weaker c.read_again.result (λ again. bom_tree again ≡ keep V1_5 bill a_bill) (λ again. bom_tree again ≡ owed) (λ again e. e ∙ bill_kept bill c.args.name.now c.args.id.now c.args.owner.now c.in_ok-bill.ensures) c.read_again.ensures
