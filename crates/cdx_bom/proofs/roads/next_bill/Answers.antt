use Rattle.std.proofs.Common.{sym, ap, ◌∙◌, option_map}
use Rattle.cdx_bom.specs.Docs.{hop_of}
use Rattle.cdx_bom.specs.Trees.{bom_tree}
use Rattle.cdx_bom.proofs.Carried.{back_next, back_read, read_next}
use Rattle.cdx_bom.proofs.roads.next_bill.Goals as goal

pub returns-in-Some-clause-exact : goal.returns-in-Some-clause-exact
returns-in-Some-clause-exact c = back_next (bom_tree c.args.bill) (hop_of c.args.hop) c.in-Some.kept (sym (ap (option_map bom_tree) c.in-Some.is) ∙ c.in_ok-kept.ensures)

pub returns-in-Some-clause-denoted : goal.returns-in-Some-clause-denoted
returns-in-Some-clause-denoted c = back_read (bom_tree c.args.bill) (hop_of c.args.hop) c.in-Some.kept (sym (ap (option_map bom_tree) c.in-Some.is) ∙ c.in_ok-kept.ensures)

pub returns-in_ok-doc-in-None-clause-exact : goal.returns-in_ok-doc-in-None-clause-exact
returns-in_ok-doc-in-None-clause-exact c =
    read_next (bom_tree c.args.bill) (hop_of c.args.hop) c.bill_of.result (sym (ap (option_map bom_tree) c.in-None.is) ∙ c.in_ok-kept.ensures) (c.bill_of.ensures _ c.in_ok-doc-in-None.ensures)
