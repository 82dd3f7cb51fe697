use Rattle.std.proofs.lemmas.Result.{err_from_is_err_and}
use Rattle.cdx_push_reader.proofs.Starts.{name_refused, namespace_refused, start_refused, begins_by, not_begun, is_other}
use Rattle.cdx_push_reader.proofs.start.begin.Goals as goal

pub returns-in_err-check_name-in-StartElement : goal.returns-in_err-check_name-in-StartElement
returns-in_err-check_name-in-StartElement g c = λ events h go p.
    let q = err_from_is_err_and c.from_residual.result c.from_residual.ensures.1 in
    let s = c.in-StartElement in
    rw (q.1, q.2) (name_refused c.args.version events c.args.event.now s.name s.attributes s.namespace s.is h go c.in_err-check_name-in-StartElement.field-0.0 c.in_err-check_name-in-StartElement.ensures)

pub returns-in_err-expected_namespace_or_error-in-StartElement : goal.returns-in_err-expected_namespace_or_error-in-StartElement
returns-in_err-expected_namespace_or_error-in-StartElement g c = λ events h go p.
    let r = c.from_residual-in_err-expected_namespace_or_error-in-StartElement in
    let q = err_from_is_err_and r.result r.ensures.1 in
    let s = c.in-StartElement in
    rw (q.1, q.2) (namespace_refused c.args.version events c.args.event.now s.name s.attributes s.namespace s.is h go c.in_err-expected_namespace_or_error-in-StartElement.field-0.0 c.in_ok-check_name-in-StartElement.ensures c.in_err-expected_namespace_or_error-in-StartElement.ensures)

pub returns-in_err-machine-in-StartElement : goal.returns-in_err-machine-in-StartElement
returns-in_err-machine-in-StartElement g c = λ events h go p.
    let r = c.from_residual-in_err-machine-in-StartElement in
    let q = err_from_is_err_and r.result r.ensures.1 in
    let s = c.in-StartElement in
    rw (q.1, q.2) (start_refused c.args.version events c.args.event.now s.name s.attributes s.namespace s.is h go g.M.RootMachine.holds c.args.place c.in_err-machine-in-StartElement.field-0.0 p c.in_ok-check_name-in-StartElement.ensures c.in_ok-expected_namespace_or_error-in-StartElement.ensures (c.in_err-machine-in-StartElement.ensures s.namespace))

pub returns-in_ok-machine-in-StartElement : goal.returns-in_ok-machine-in-StartElement
returns-in_ok-machine-in-StartElement g c = λ events h go p.
    let s = c.in-StartElement in
    begins_by c.args.version events c.args.event.now s.name s.attributes s.namespace s.is h go g.M.RootMachine.holds c.args.place c.in_ok-machine-in-StartElement.machine p c.in_ok-check_name-in-StartElement.ensures c.in_ok-expected_namespace_or_error-in-StartElement.ensures (c.in_ok-machine-in-StartElement.ensures s.namespace)

pub returns-in_default : goal.returns-in_default
returns-in_default g c = λ events h go p.
    not_begun events c.args.event.now h go (is_other c.args.event.now (λ n a s e. c.in_default.not-StartElement n a s e))
