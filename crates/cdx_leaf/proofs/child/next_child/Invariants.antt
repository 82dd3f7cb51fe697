use Rattle.std.proofs.Common.{List, length}
use Rattle.cdx_events.specs.declared.event.XmlEvent.{XmlEvent}
use Rattle.cdx_events.specs.Nodes.{Nodes}
use Rattle.cdx_leaf.specs.Reading.{WithinElement}
use Rattle.cdx_leaf.proofs.NextChild.{PastTexts}
use Rattle.cdx_leaf.proofs.child.next_child.Given as goal

abbrev pub invariant-texts : goal.invariant-texts
invariant-texts l = (nodes : Nodes) (rest : List XmlEvent) → WithinElement l.fn.reader l.fn.opened.element.now nodes rest → PastTexts l.fn.rule l.fn.reader l.reader l.fn.opened.element.now nodes rest

abbrev pub decreases-texts : goal.decreases-texts
decreases-texts l = length l.reader.ahead
