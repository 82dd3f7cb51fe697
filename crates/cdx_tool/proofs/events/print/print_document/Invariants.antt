use Rattle.std.proofs.Common.{◌≡◌, ◌++◌, map}
use Rattle.serde_json.specs.View.{items_of}
use Rattle.serde_json.specs.Written.{compact_text, items_text}
use Rattle.cdx_bom.specs.Trees.{bom_tree}
use Rattle.cdx_bom.specs.BillWriting.{document_in}
use Rattle.cdx_request.specs.EventValues.{event_value, events_value}
use Rattle.cdx_print.specs.Printed.{printed}
use Rattle.cdx_tool.proofs.events.print.print_document.Given as goal

-- the pieces so far, and then the events ahead
abbrev pub invariant-loop-printer : goal.invariant-loop-printer
invariant-loop-printer l =
    printed l.out ++ items_text l.is_later (items_of (map event_value l.pieces.events)) ≡ printed l.fn.out ++ compact_text (events_value (document_in l.fn.version (bom_tree l.bill)))

abbrev pub decreases-loop-printer : goal.decreases-loop-printer
decreases-loop-printer l = l.pieces.pieces
