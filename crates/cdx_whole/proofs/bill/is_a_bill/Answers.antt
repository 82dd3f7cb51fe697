use Rattle.std.proofs.Common.{inr, refl}
use Rattle.cdx_schema.specs.Table.{rows}
use Rattle.cdx_schema.specs.Laws.{IsBill}
use Rattle.cdx_bom.specs.Trees.{bom_tree}
use Rattle.cdx_whole.proofs.bill.is_a_bill.Goals as goal
use Rattle.cdx_schema.proofs.HeldKept.{label_is}

pub returns : goal.returns
unfolding rows
returns c =
    let bill : IsBill (bom_tree c.args.bill.now) = (refl, (inr (label_is c.args.bill.now.spec_version), (inr c.tell.ensures, (c.tell_row.ensures, (c.tell_row-2.ensures, (c.tell_row-3.ensures, (c.tell_row-4.ensures, (c.tell_row-5.ensures, (c.tell_row-6.ensures, (c.tell_row-7.ensures, (c.tell_row-8.ensures, (c.tell_row-9.ensures, tt)))))))))))) in
    record { bill = bill; shape = c.bills_have_shape.ensures (bom_tree c.args.bill.now) bill }
