use Rattle.std.proofs.Common.{rules, ◌≡◌, ◌∙◌, ◌∷◌, [], ◌++◌, map, false, Some, ap, sym, string_bytes}
use Rattle.serde_json.specs.View.{items_of}
use Rattle.serde_json.specs.Written.{compact_text, items_text}
use Rattle.cdx_bom.specs.Trees.{bom_tree}
use Rattle.cdx_bom.specs.Pieces.{GivesPiece}
use Rattle.cdx_bom.specs.BillWriting.{document_in}
use Rattle.cdx_request.specs.EventValues.{event_value, events_value}
use Rattle.cdx_print.specs.Printed.{printed}
use Rattle.cdx_tool.proofs.Behind.{items_behind}
use Rattle.cdx_tool.proofs.InPieces.{begun, piece_printed}
use Rattle.cdx_tool.proofs.events.print.print_document.Goals as goal

pub loop-printer-init : goal.loop-printer-init
loop-printer-init c =
    let held = printed c.push_str.new.self in
    let events = document_in c.args.version (bom_tree c.args.bill.now) in
    ap (λ es. held ++ items_text false (items_of (map event_value es))) c.document_pieces-pieces.ensures ∙ begun (map event_value events) (printed c.args.out.now) held (search rules)

pub loop-printer-preserved : goal.loop-printer-preserved
loop-printer-preserved c =
    let ahead = c.loop-printer.pieces in
    let rest = c.next.new.self in
    let given : GivesPiece ahead rest (Some c.in-Some.piece) = search rules in
    let events = given.0 ∙ ap (λ es. es ++ rest.events) (sym c.as_slice.ensures) in
    let out = c.loop-printer.out in
    let more = items_behind out.pieces (map event_value c.as_slice.result.now) (string_bytes out.last) c.loop-printer.is_later (string_bytes c.print_events_from.new.out) c.in_ok-is_later.is_later c.in_ok-is_later.ensures in
    ap (λ s. s ++ items_text c.in_ok-is_later.is_later (items_of (map event_value rest.events))) c.in_ok-break_if_long.ensures
    ∙ piece_printed event_value ahead.events c.as_slice.result.now rest.events _ _ _ _ _ events more c.loop-printer.invariant

pub returns : goal.returns
returns c =
    let held = printed c.loop-printer.out in
    let none : c.loop-printer.pieces.events ≡ [] = search rules in
    let so_far : held ++ 93 ∷ [] ≡ printed c.args.out.now ++ compact_text (events_value (document_in c.args.version (bom_tree c.args.bill.now))) = sym (ap (λ es. held ++ items_text c.loop-printer.is_later (items_of (map event_value es))) none) ∙ c.loop-printer.invariant in
    search rules
