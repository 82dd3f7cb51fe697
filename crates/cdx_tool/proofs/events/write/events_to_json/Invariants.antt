use Rattle.std.proofs.Common.{◌≡◌, ◌++◌, length, map}
use Rattle.serde_json.specs.View.{view}
use Rattle.cdx_request.specs.EventValues.{event_value}
use Rattle.cdx_tool.proofs.events.write.events_to_json.Given as goal

-- the values so far, and then those of the events ahead
abbrev pub invariant-loop-event : goal.invariant-loop-event
invariant-loop-event l = map view l.values.items ++ map event_value l.reader.ahead ≡ map event_value l.events.list

abbrev pub decreases-loop-event : goal.decreases-loop-event
decreases-loop-event l = length l.reader.ahead
