use Rattle.std.proofs.Common.{◌∙◌}
use Rattle.cdx_events.proofs.Telling.{same_events}
use Rattle.cdx_events.proofs.events.Events.copy.Goals as goal

pub returns : goal.returns
returns c = same_events _ _ c.in_ok-copy.ensures ∙ c.self.view_is
