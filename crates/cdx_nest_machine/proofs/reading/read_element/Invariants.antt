use Rattle.std.proofs.Common.{ℕ, List, length}
use Rattle.cdx_events.specs.declared.event.XmlEvent.{XmlEvent}
use Rattle.cdx_events.specs.declared.name.Namespace.{Namespace}
use Rattle.cdx_events.specs.Nodes.{Nodes}
use Rattle.cdx_schema.specs.Depths.{depth_of}
use Rattle.cdx_leaf.specs.Reading.{Stands}
use Rattle.cdx_machine.proofs.Feeding.{Feeding}
use Rattle.cdx_nest_machine.specs.Frames.{leaf_holds, shape_of, stack_holds}
use Rattle.cdx_nest_machine.proofs.reading.read_element.Given as goal

abbrev pub invariant-events : goal.invariant-events
invariant-events g l =
    let f = g.F.Nested in
    let e = g.F.Leaf.Leaves in
    record {
      fed : (s : Namespace) (p : ℕ) (nodes : Nodes) (rest : List XmlEvent) → Stands l.fn.reader l.fn.opened.element.now p nodes rest
          → Feeding (λ m v p d o. stack_holds (shape_of f.as_kind f.sort_of f.fields f.child_of) (leaf_holds f.as_kind f.child_of e.sort_of e.holds) f.sort_of f.fields l.fn.sort m.below.items m.top m.version m.inside v p d o) l.fn.opened.version l.fn.opened.element.now l.fn.opened.attributes.now s p nodes rest (depth_of l.fn.depth) l.reader l.machine;
    }

abbrev pub decreases-events : goal.decreases-events
decreases-events g l = length l.reader.ahead
