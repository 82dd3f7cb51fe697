use Rattle.std.proofs.Common.{inl, inr, option_copied}
use Rattle.cdx_tool.specs.Owed.{reply_by}
use Rattle.cdx_tool.proofs.Settling.{ends_unwritten, status_owed, read_far}
use Rattle.cdx_tool.proofs.responding.respond.Goals as goal

pub returns-in-Err-clause-table : goal.returns-in-Err-clause-table
returns-in-Err-clause-table g c = ends_unwritten _ _ (reply_by g.C.Respond.owed (option_copied c.args.command)) _ _ (elim c.in-Err.ensures.err [ inl x ↦ inl x.0 | inr y ↦ inr y ])

pub returns-in-Ok-put_answer-clause-served : goal.returns-in-Ok-put_answer-clause-served
returns-in-Ok-put_answer-clause-served g c =
    let o = c.in-Ok.ensures.ok in
    λ bytes said source sink. inl (status_owed _ o.0 bytes (reply_by g.C.Respond.owed (option_copied c.args.command)) _ o.1 o.2 said)

pub returns-clause-end_put : goal.returns-clause-end_put
returns-clause-end_put g c = λ some put. read_far _ _ _ (c.in-Ok.ensures.how_far some)
