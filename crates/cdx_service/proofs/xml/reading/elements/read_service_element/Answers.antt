use Rattle.std.proofs.lemmas.Result.{err_from_is_err_and}
use Rattle.cdx_service.proofs.xml.reading.elements.read_service_element.Goals as goal

pub returns-in_err-service : goal.returns-in_err-service
returns-in_err-service c = λ d ns p nodes rest st.
    let q = err_from_is_err_and c.from_residual.result c.from_residual.ensures.1 in
    rw (q.1, q.2) (c.in_err-service.ensures.reads d ns p nodes rest st)

pub returns : goal.returns
returns c = λ d ns p nodes rest st. rw c.in-Service.is at (c.in_ok-service.ensures.reads d ns p nodes rest st)
