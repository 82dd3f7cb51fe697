use Rattle.std.proofs.Common.{ap, Err, inl}
use Rattle.cdx_request.specs.Replies.{Reply}
use Rattle.cdx_tool.proofs.Settling.{owed_to_long, long_told}
use Rattle.cdx_tool.proofs.responding.answer_source.Goals as goal

pub returns-in-Ok-refuse-clause-ok : goal.returns-in-Ok-refuse-clause-ok
returns-in-Ok-refuse-clause-ok g c =
    let t = c.in-Err-TooLong.ensures.too_long (ap Err c.in-Err-TooLong.field-0-is) in
    owed_to_long g.C.Respond.owed c.args.command.now _ _ t.0 _ t.1 t.2 c.in-Ok-refuse.ensures

pub returns-in-Ok-refuse-clause-how_far : goal.returns-in-Ok-refuse-clause-how_far
returns-in-Ok-refuse-clause-how_far g c =
    let t = c.in-Err-TooLong.ensures.too_long (ap Err c.in-Err-TooLong.field-0-is) in
    inl (ap (λ (x : Reply). x.status) c.in-Ok-refuse.ensures, long_told _ _ t.0 t.1 t.2)
