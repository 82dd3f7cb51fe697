use Rattle.std.proofs.Common.{sym, ap, ◌∙◌, option_map}
use Rattle.cdx_bom.specs.Docs.{hop_of}
use Rattle.cdx_bom.specs.Trees.{bom_tree}
use Rattle.cdx_bom.proofs.Carried.{back_read}
use Rattle.cdx_bom.proofs.roads.read_again.Goals as goal

pub returns-in-Some : goal.returns-in-Some
returns-in-Some c = λ is known. back_read (bom_tree c.args.bill) (hop_of c.args.hop) c.in-Some.kept (sym (ap (option_map bom_tree) c.in-Some.is) ∙ c.in_ok-back.ensures) known

pub returns-in-None : goal.returns-in-None
returns-in-None c = λ is known. c.bill_of.ensures _ is
