use Rattle.std.proofs.Common.{List, ◌++◌, codes, ap, ◌∙◌}
use Rattle.cdx_events.specs.declared.event.XmlEvent.{XmlEvent}
use Rattle.cdx_bom.specs.Pieces.{services_row, references_row, list_opened, list_closed, before_dependencies}
use Rattle.cdx_bom.proofs.Pieces.{four_in_a_row}
use Rattle.cdx_bom.proofs.xml.pieces.middle_piece.Goals as goal

pub returns : goal.returns
unfolding before_dependencies
returns c =
    let b = c.args.bill.now in
    let w = c.args.target.version in
    let closed = list_closed (codes "components") b.components in
    let services = services_row w b in
    let references = references_row w b in
    let opened = list_opened (codes "dependencies") b.dependencies in
    c.into_list.ensures
    ∙ c.in_ok-only_memory-4.ensures c.put_child-2.new.writer c.open_list.new.writer opened c.open_list.ensures
    ∙ ap (λ (s : List XmlEvent). s ++ opened) (c.in_ok-only_memory-3.ensures c.put_child.new.writer c.put_child-2.new.writer references c.put_child-2.ensures
    ∙ ap (λ (s : List XmlEvent). s ++ references) (c.in_ok-only_memory-2.ensures c.close_list.new.writer c.put_child.new.writer services c.put_child.ensures
    ∙ ap (λ (s : List XmlEvent). s ++ services) (c.in_ok-only_memory.ensures c.new-writer.result c.close_list.new.writer closed c.close_list.ensures
    ∙ ap (λ (s : List XmlEvent). s ++ closed) c.new-writer.ensures)))
    ∙ four_in_a_row closed services references opened
