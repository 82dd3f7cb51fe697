use Rattle.std.proofs.Common.{Ok, sym, ap, ◌∙◌}
use Rattle.std.proofs.lemmas.Result.{err_from_is_err_and}
use Rattle.cdx_bom.specs.declared.push.frame.BillKind.TheVariants.{Bill}
use Rattle.cdx_bom.proofs.push.machine.BillMachineRootMachine.finish.Goals as goal

pub returns-in_err-finish : goal.returns-in_err-finish
returns-in_err-finish c = λ v p d o k h i t w.
    let q = err_from_is_err_and c.from_residual.result c.from_residual.ensures.1 in
    rw (q.1, q.2) (c.in_err-finish.ensures Bill v p d o k h i t w).0

pub bill_of-requires : goal.bill_of-requires
bill_of-requires c =
    let r = c.requires in
    (c.in_ok-finish.ensures Bill r.v r.p r.d r.o r.all r.held r.place_is r.takes r.ends).1

pub returns : goal.returns
returns c = λ v p d o k h i t w. (c.in_ok-finish.ensures Bill v p d o k h i t w).0 ∙ ap (λ t. Ok t) (sym c.bill_of.ensures)
