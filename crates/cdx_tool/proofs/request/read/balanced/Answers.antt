use Rattle.cdx_schema.specs.Roads.{xml}
use Rattle.cdx_tool.proofs.Reading.{balanced_is, broken_is}
use Rattle.cdx_tool.proofs.request.read.balanced.Goals as goal

pub returns-in-Ok : goal.returns-in-Ok
returns-in-Ok c =
    let r = balanced_is c.args.events c.in-Ok.events.list c.in-Ok.ensures.0 c.in-Ok.ensures.1 in
    (xml r.0, r.1, r.2)

pub returns-in-Err-Unbalanced : goal.returns-in-Err-Unbalanced
returns-in-Err-Unbalanced c = broken_is c.args.events c.in-Err-Unbalanced.place c.breaks.ensures (rw c.in-Err-Unbalanced.field-0-is at c.in-Err-Unbalanced.ensures)
