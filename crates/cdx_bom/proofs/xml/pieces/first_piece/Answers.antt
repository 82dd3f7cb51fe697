use Rattle.std.proofs.Common.{List, [], ◌∷◌, ◌++◌, codes, ap, ◌∙◌}
use Rattle.cdx_events.specs.declared.event.XmlEvent.{XmlEvent}
use Rattle.cdx_events.specs.declared.event.XmlEvent.TheVariants.{StartDocument}
use Rattle.cdx_bom.specs.BillWriting.{root_start}
use Rattle.cdx_bom.specs.Trees.{bom_tree}
use Rattle.cdx_bom.specs.Pieces.{metadata_row, list_opened, before_components}
use Rattle.cdx_bom.proofs.xml.pieces.first_piece.Goals as goal

pub returns : goal.returns
unfolding before_components
returns c =
    let b = c.args.bill.now in
    let w = c.args.target.version in
    let start = StartDocument ∷ [] in
    let root = root_start (bom_tree b) w ∷ [] in
    let row = metadata_row w b in
    let list = list_opened (codes "components") b.components in
    c.into_list.ensures
    ∙ c.in_ok-only_memory-4.ensures c.put_child.new.writer c.open_list.new.writer list c.open_list.ensures
    ∙ ap (λ (s : List XmlEvent). s ++ list) (c.in_ok-only_memory-3.ensures c.write_root_start.new.writer c.put_child.new.writer row c.put_child.ensures
    ∙ ap (λ (s : List XmlEvent). s ++ row) (c.in_ok-only_memory-2.ensures c.write_start.new.writer c.write_root_start.new.writer root c.write_root_start.ensures
    ∙ ap (λ (s : List XmlEvent). s ++ root) (c.in_ok-only_memory.ensures c.new-writer.result c.write_start.new.writer start c.write_start.ensures
    ∙ ap (λ (s : List XmlEvent). s ++ start) c.new-writer.ensures)))
