use Rattle.std.proofs.Common.{◌≤◌, List, length}
use Rattle.cdx_events.specs.declared.event.XmlEvent.{XmlEvent}
use Rattle.cdx_events.specs.Nodes.{Nodes}
use Rattle.cdx_leaf.specs.Reading.{WithinElement}
use Rattle.cdx_leaf.proofs.Skip.{Skips}
use Rattle.cdx_leaf.proofs.tags.read_lax_validation_tag.Given as goal

abbrev pub invariant-loop-event : goal.invariant-loop-event
invariant-loop-event l = record {
  skips : (nodes : Nodes) (rest : List XmlEvent) → WithinElement l.fn.reader l.fn.element nodes rest → Skips l.fn.reader l.reader l.depth rest;
  shallow : l.depth ≤ l.reader.place;
}

abbrev pub decreases-loop-event : goal.decreases-loop-event
decreases-loop-event l = length l.reader.ahead
