use Rattle.cdx_service.proofs.ReadGroups.{service_ended, service_lacks}
use Rattle.cdx_service.proofs.xml.reading.finish.finish_service.Goals as goal

pub returns-in-Err : goal.returns-in-Err
returns-in-Err c = λ v. service_lacks c.in-Err.error c.args.part v c.args.closed.now.element.now.local_name c.args.closed.now.place (c.in-Err.ensures v)

pub returns-in-Ok : goal.returns-in-Ok
returns-in-Ok c = λ v. service_ended c.assemble.result c.in-Ok.naming c.args.part v c.args.closed.now.element.now.local_name c.args.closed.now.place (c.in-Ok.ensures v) c.assemble.ensures
