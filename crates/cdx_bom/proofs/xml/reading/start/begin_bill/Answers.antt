use Rattle.std.proofs.lemmas.Result.{err_from_is_err_and}
use Rattle.cdx_bom.proofs.BillStart.{version_fails, all_read}
use Rattle.cdx_bom.proofs.xml.reading.start.begin_bill.Goals as goal

pub returns-in_err-version : goal.returns-in_err-version
returns-in_err-version c =
    let q = err_from_is_err_and c.from_residual.result c.from_residual.ensures.1 in
    rw (q.1, q.2) (version_fails c.args.opened.now.attributes.now c.args.opened.now.version c.args.opened.now.element.now.local_name c.args.opened.now.place c.in_err-version.field-0.0 _ c.in_err-version.ensures)

pub returns : goal.returns
returns c = all_read c.args.opened.now.attributes.now c.args.opened.now.version c.args.opened.now.element.now.local_name c.args.opened.now.place c.in_ok-version.version c.in_ok-serial_number.serial_number c.in_ok-version.ensures c.in_ok-serial_number.ensures
