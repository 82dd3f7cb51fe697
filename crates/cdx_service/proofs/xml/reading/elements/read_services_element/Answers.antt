use Rattle.std.proofs.lemmas.Result.{err_from_is_err_and}
use Rattle.cdx_service.proofs.xml.reading.elements.read_services_element.Goals as goal

pub returns-in_err-services : goal.returns-in_err-services
returns-in_err-services c = λ d ns p nodes rest st.
    let q = err_from_is_err_and c.from_residual.result c.from_residual.ensures.1 in
    rw (q.1, q.2) (c.in_err-services.ensures.reads d ns p nodes rest st)

pub returns : goal.returns
returns c = λ d ns p nodes rest st. rw c.in-Services.is at (c.in_ok-services.ensures.reads d ns p nodes rest st)
