use Rattle.std.proofs.Common.{◌≡◌, List, length}
use Rattle.cdx_events.specs.declared.event.XmlEvent.{XmlEvent}
use Rattle.cdx_push_reader.specs.Pushed.{heard}
use Rattle.cdx_bom.specs.Trees.{bom_tree}
use Rattle.cdx_bom.specs.contracts.push.machine.BillMachineRootMachine.TheImpl.{ghosts}
use Rattle.cdx_feed.proofs.reading.by_pieces.Given as goal

abbrev pub invariant-pieces : goal.invariant-pieces
invariant-pieces l = record { heard : (events : List XmlEvent) × heard ghosts.holds bom_tree l.reader.fed events × (l.fed ≡ length events) }
