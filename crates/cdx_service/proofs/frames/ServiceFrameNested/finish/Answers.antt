use Rattle.std.proofs.lemmas.Result.{err_from_is_err_and}
use Rattle.cdx_service.proofs.frames.ServiceFrameNested.finish.Goals as goal

pub returns-in_err-finish_service-in-Service-clause-gives : goal.returns-in_err-finish_service-in-Service-clause-gives
returns-in_err-finish_service-in-Service-clause-gives c =
    let q = err_from_is_err_and c.from_residual.result c.from_residual.ensures.1 in
    rw (q.1, q.2) (rw c.in-Service.is (c.in_err-finish_service-in-Service.ensures c.args.closed.now.version))

pub returns-in_ok-finish_service-in-Service-clause-gives : goal.returns-in_ok-finish_service-in-Service-clause-gives
returns-in_ok-finish_service-in-Service-clause-gives c = rw c.in-Service.is (c.in_ok-finish_service-in-Service.ensures c.args.closed.now.version)
