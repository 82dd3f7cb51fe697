use Rattle.std.proofs.Common.{List, [], ◌∷◌, ◌++◌, codes, ap, ◌∙◌}
use Rattle.cdx_events.specs.declared.event.XmlEvent.{XmlEvent}
use Rattle.cdx_events.specs.declared.event.XmlEvent.TheVariants.{EndDocument}
use Rattle.cdx_write.specs.Writing.{end_tag}
use Rattle.cdx_bom.specs.Pieces.{compositions_row, properties_row, signature_row, list_closed, after_dependencies}
use Rattle.cdx_bom.proofs.Pieces.{six_in_a_row}
use Rattle.cdx_bom.proofs.xml.pieces.last_piece.Goals as goal

pub returns : goal.returns
unfolding after_dependencies
returns c =
    let b = c.args.bill.now in
    let w = c.args.target.version in
    let closed = list_closed (codes "dependencies") b.dependencies in
    let compositions = compositions_row w b in
    let properties = properties_row w b in
    let signature = signature_row w b in
    let root = end_tag (codes "bom") ∷ [] in
    let end = EndDocument ∷ [] in
    c.into_list.ensures
    ∙ c.in_ok-only_memory-6.ensures c.write_close_tag.new.writer c.write_end.new.writer end c.write_end.ensures
    ∙ ap (λ (s : List XmlEvent). s ++ end) (c.in_ok-only_memory-5.ensures c.put_child_since-2.new.writer c.write_close_tag.new.writer root c.write_close_tag.ensures
    ∙ ap (λ (s : List XmlEvent). s ++ root) (c.in_ok-only_memory-4.ensures c.put_child_since.new.writer c.put_child_since-2.new.writer signature c.put_child_since-2.ensures
    ∙ ap (λ (s : List XmlEvent). s ++ signature) (c.in_ok-only_memory-3.ensures c.put_child.new.writer c.put_child_since.new.writer properties c.put_child_since.ensures
    ∙ ap (λ (s : List XmlEvent). s ++ properties) (c.in_ok-only_memory-2.ensures c.close_list.new.writer c.put_child.new.writer compositions c.put_child.ensures
    ∙ ap (λ (s : List XmlEvent). s ++ compositions) (c.in_ok-only_memory.ensures c.new-writer.result c.close_list.new.writer closed c.close_list.ensures
    ∙ ap (λ (s : List XmlEvent). s ++ closed) c.new-writer.ensures)))))
    ∙ six_in_a_row closed compositions properties signature root end
