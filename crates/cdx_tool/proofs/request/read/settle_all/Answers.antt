use Rattle.std.proofs.Common.{ap, refl}
use Rattle.cdx_request.specs.Requests.{asking}
use Rattle.cdx_tool.specs.Reads.{asked_in}
use Rattle.cdx_tool.proofs.request.read.settle_all.Goals as goal

pub returns : goal.returns
returns c =
    let a = asked_in c.args.asked in
    let d = c.in_ok-doc.ensures in
    (record { from = a.from; doc = d.0; hops = a.hops }, ap (asking a.from a.hops) d.1, (refl, d.2, refl))
