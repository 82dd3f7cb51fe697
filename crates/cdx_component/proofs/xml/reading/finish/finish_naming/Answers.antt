use Rattle.std.proofs.lemmas.Result.{err_from_is_err_and}
use Rattle.cdx_component.proofs.Begun.{name_lacks, version_lacks, naming_whole}
use Rattle.cdx_component.proofs.xml.reading.finish.finish_naming.Goals as goal

pub returns-in_err-name : goal.returns-in_err-name
returns-in_err-name c =
    let q = err_from_is_err_and c.from_residual.result c.from_residual.ensures.1 in
    rw (q.1, q.2) (name_lacks c.args.part c.args.closed.now.version c.args.closed.now.element.now.local_name c.args.closed.now.place c.in_err-name.field-0.0 _ c.in_err-name.ensures)

pub returns-in_err-version : goal.returns-in_err-version
returns-in_err-version c =
    let q = err_from_is_err_and c.from_residual-in_err-version.result c.from_residual-in_err-version.ensures.1 in
    rw (q.1, q.2) (version_lacks c.args.part c.args.closed.now.version c.args.closed.now.element.now.local_name c.args.closed.now.place c.in_ok-name.name c.in_err-version.field-0.0 _ c.in_ok-name.ensures c.in_err-version.ensures)

pub returns : goal.returns
returns c = naming_whole c.args.part c.args.closed.now.version c.args.closed.now.element.now.local_name c.args.closed.now.place c.in_ok-name.name c.in_ok-version.version c.in_ok-name.ensures c.in_ok-version.ensures
