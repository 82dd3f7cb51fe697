use Rattle.std.proofs.Common.{map, take, string_bytes}
use Rattle.cdx_request.specs.EventValues.{event_value}
use Rattle.cdx_tool.specs.Prints.{PrintsItems}
use Rattle.cdx_tool.proofs.events.print.print_events_from.Given as goal

-- the events so far
abbrev pub invariant-loop-event : goal.invariant-loop-event
invariant-loop-event l = PrintsItems (map event_value (take l.event-index l.events)) (string_bytes l.fn.out) l.is_later (string_bytes l.out) l.later
