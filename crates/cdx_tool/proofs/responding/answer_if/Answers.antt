use Rattle.std.proofs.Common.{option_copied, ap}
use Rattle.cdx_tool.proofs.Settling.{owed_to_none}
use Rattle.cdx_tool.proofs.responding.answer_if.Goals as goal

pub returns-in-Ok-clause-ok : goal.returns-in-Ok-clause-ok
returns-in-Ok-clause-ok g c = owed_to_none g.C.Respond.owed (option_copied c.args.command) _ _ (ap option_copied c.in-None.is) c.in-Ok.ensures
