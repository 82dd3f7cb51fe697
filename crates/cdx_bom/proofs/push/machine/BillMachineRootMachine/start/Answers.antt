use Rattle.std.proofs.lemmas.Result.{err_from_is_err_and}
use Rattle.cdx_bom.proofs.push.machine.BillMachineRootMachine.start.Goals as goal

pub returns-in_err-stack : goal.returns-in_err-stack
returns-in_err-stack c = λ z.
    let q = err_from_is_err_and c.from_residual.result c.from_residual.ensures.1 in
    rw (q.1, q.2) (c.in_err-stack.ensures z)

pub returns : goal.returns
returns c = λ z. c.in_ok-stack.ensures z
