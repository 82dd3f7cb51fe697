use Rattle.std.proofs.Common.{arith}
use Rattle.cdx_service.specs.declared.service.Services.{out-Services}
use Rattle.cdx_service.proofs.Compared.{services_differ}
use Rattle.cdx_service.proofs.service.compared.+service_equal.Goals as goal

pub equal_services-returns-then-len : goal.equal_services-returns-then-len
equal_services-returns-then-len t c =
    services_differ c.args.one.now c.args.other.now (λ e.
    let one = (out-Services c.args.one.now).items.ok.0 in
    let other = (out-Services c.args.other.now).items.ok.0 in
    c.if-len.true (omega (arith, one, other, e)))
