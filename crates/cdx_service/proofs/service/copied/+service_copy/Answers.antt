use Rattle.cdx_service.proofs.Copied.{service_copied}
use Rattle.cdx_service.proofs.service.copied.+service_copy.Goals as goal

pub copy_service-returns : goal.copy_service-returns
copy_service-returns t c = service_copied _ c.args.service.now _ _ _ c.assemble.ensures c.in_ok-service_naming.ensures c.in-Ok.ensures c.in-Ok-copy_service_contents.ensures
