use Rattle.std.proofs.Common.{ℕ, List, length}
use Rattle.cdx_events.specs.declared.event.XmlEvent.{XmlEvent}
use Rattle.cdx_events.specs.declared.name.Namespace.{Namespace}
use Rattle.cdx_events.specs.Nodes.{Nodes}
use Rattle.cdx_schema.specs.Depth.{Depth}
use Rattle.cdx_leaf.specs.Reading.{Stands}
use Rattle.cdx_machine.proofs.Feeding.{Feeding}
use Rattle.cdx_machine.proofs.reading.read_by_machine.Given as goal

abbrev pub invariant-events : goal.invariant-events
invariant-events g l = record {
  fed : (d : Depth) (s : Namespace) (p : ℕ) (nodes : Nodes) (rest : List XmlEvent) → Stands l.fn.reader l.fn.element p nodes rest → Feeding g.M.Machine.holds l.fn.version l.fn.element l.fn.attributes s p nodes rest d l.reader l.machine;
}

abbrev pub decreases-events : goal.decreases-events
decreases-events g l = length l.reader.ahead
