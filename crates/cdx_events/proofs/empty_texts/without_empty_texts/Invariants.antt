use Rattle.std.proofs.Common.{◌≡◌, take}
use Rattle.cdx_events.specs.EmptyTexts.{without_empty}
use Rattle.cdx_events.proofs.empty_texts.without_empty_texts.Given as goal

abbrev pub invariant-loop-event : goal.invariant-loop-event
invariant-loop-event l = l.kept ≡ without_empty (take l.event-index l.event-items)
