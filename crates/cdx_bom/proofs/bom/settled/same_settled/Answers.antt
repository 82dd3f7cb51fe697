use Rattle.cdx_models.specs.Equal.{equal}
use Rattle.cdx_schema.specs.Kinds.{a_bill}
use Rattle.cdx_schema.specs.Trips.{settled}
use Rattle.cdx_bom.specs.Trees.{bom_tree}
use Rattle.cdx_bom.proofs.Nested.{else_neither}
use Rattle.cdx_bom.proofs.Settled.{bills_compared}
use Rattle.cdx_bom.proofs.bom.settled.same_settled.Goals as goal

pub returns-else-same_settled_inventory : goal.returns-else-same_settled_inventory
returns-else-same_settled_inventory c =
    else_neither c.same_settled_inventory.result _ _ (equal (settled (bom_tree c.args.one.now) a_bill) (settled (bom_tree c.args.other.now) a_bill)) (bills_compared c.args.one.now c.args.other.now) c.same_settled_inventory.ensures c.if-same_settled_inventory.false
