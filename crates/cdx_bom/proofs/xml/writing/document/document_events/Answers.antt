use Rattle.std.proofs.Common.{List, ◌++◌, Err, ap, subst, ◌∙◌}
use Rattle.cdx_events.specs.declared.event.XmlEvent.{XmlEvent}
use Rattle.cdx_events.specs.declared.events.EventsError.{EventsError}
use Rattle.cdx_events.specs.Events.{AnswersEvents}
use Rattle.cdx_events.specs.Nodes.{IsBroken}
use Rattle.cdx_bom.specs.Trees.{bom_tree}
use Rattle.cdx_bom.specs.BillWriting.{document_in}
use Rattle.cdx_bom.proofs.BillWritten.{balanced}
use Rattle.cdx_bom.proofs.xml.writing.document.document_events.Goals as goal

pub unreachable-requires : goal.unreachable-requires
unreachable-requires c =
    let b = c.args.held.now in
    let document = document_in c.args.target.version (bom_tree b) in
    let written = c.in_ok-only_memory.ensures c.new-writer.result c.write_document.new.writer document c.write_document.ensures ∙ ap (λ (s : List XmlEvent). s ++ document) c.new-writer.ensures in
    let broken : IsBroken c.write_document.new.writer c.in-Err-Unbalanced.field-0-0 = subst (λ (e : EventsError). AnswersEvents c.write_document.new.writer (Err e)) c.in-Err-Unbalanced.field-0-is c.in-Err-Unbalanced.ensures in
    broken.unbalanced (balanced b c.args.target.version c.write_document.new.writer written)

pub returns-in-Ok : goal.returns-in-Ok
returns-in-Ok c =
    let document = document_in c.args.target.version (bom_tree c.args.held.now) in
    let written = c.in_ok-only_memory.ensures c.new-writer.result c.write_document.new.writer document c.write_document.ensures ∙ ap (λ (s : List XmlEvent). s ++ document) c.new-writer.ensures in
    c.in-Ok.ensures.0 ∙ written
