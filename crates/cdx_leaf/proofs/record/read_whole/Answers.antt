use Rattle.std.proofs.Common.{Ok, Err, sym}
use Rattle.std.proofs.lemmas.Result.{err_from_is_err_and}
use Rattle.cdx_schema.specs.Depth.{top}
use Rattle.cdx_models.specs.Trees.{fields_of}
use Rattle.cdx_leaf.proofs.Whole.{record_is, part_fails, part_finishes, past_start, reads_so_far, seen_whole}
use Rattle.cdx_leaf.proofs.record.read_whole.Goals as goal

pub returns-in_err-part : goal.returns-in_err-part
returns-in_err-part g c = λ d ns p nodes rest st.
    let q = err_from_is_err_and c.from_residual.result c.from_residual.ensures.1 in
    let e = c.in_err-part.field-0.0 in
    let r = g.X.Record in
    let laws = g.met.X.XmlRecord in
    let slots = g.X.Part.Children.slots in
    let read = reads_so_far slots g.X.Part.Children.plan g.X.Part.Children.depth r.name laws.by_rows c.args.opened.now.version c.args.opened.now.element.now c.args.opened.now.attributes.now c.args.reader.now c.read_record.new.reader c.place.result c.begin-begun.result (Err e) (sym c.place.ensures) c.begin-begun.ensures c.in_err-part.ensures d p nodes rest st in
    rw (q.1, q.2) (part_fails r.name c.args.opened.now.version c.args.opened.now.element.now c.args.opened.now.attributes.now ns d p nodes c.args.reader.now c.read_record.new.reader e (record_is r.name laws.no_content g.X.Record.plain c.args.opened.now.version c.args.opened.now.element.now c.args.opened.now.attributes.now ns d p nodes) read)

pub overflow_sub-end : goal.overflow_sub-end
overflow_sub-end g c =
    let st = c.requires in
    let r = g.X.Record in
    let laws = g.met.X.XmlRecord in
    let read = reads_so_far g.X.Part.Children.slots g.X.Part.Children.plan g.X.Part.Children.depth r.name laws.by_rows c.args.opened.now.version c.args.opened.now.element.now c.args.opened.now.attributes.now c.args.reader.now c.read_record.new.reader c.place.result c.begin-begun.result (Ok c.in_ok-part.part) (sym c.place.ensures) c.begin-begun.ensures c.in_ok-part.ensures top st.p st.nodes st.rest st.stands in
    past_start c.args.reader.now c.read_record.new.reader c.place-end.result st.nodes st.rest read.1 c.place-end.ensures

pub returns : goal.returns
returns g c = λ d ns p nodes rest st.
    let r = g.X.Record in
    let laws = g.met.X.XmlRecord in
    let part = c.in_ok-part.part in
    let tree = g.X.HasTree.tree in
    let slots = g.X.Part.Children.slots in
    let read = reads_so_far slots g.X.Part.Children.plan g.X.Part.Children.depth r.name laws.by_rows c.args.opened.now.version c.args.opened.now.element.now c.args.opened.now.attributes.now c.args.reader.now c.read_record.new.reader c.place.result c.begin-begun.result (Ok part) (sym c.place.ensures) c.begin-begun.ensures c.in_ok-part.ensures d p nodes rest st in
    seen_whole tree (λ x. fields_of (tree x)) r.name c.args.reader.now c.read_record.new.reader _ _ c.finish.result g.met.X.Record.is_record
    (part_finishes slots (λ x. fields_of (tree x)) r.name c.args.opened.now.version c.args.opened.now.element.now c.args.opened.now.attributes.now ns d p nodes rest c.args.reader.now c.read_record.new.reader c.place-end.result part c.finish.result (record_is r.name laws.no_content g.X.Record.plain c.args.opened.now.version c.args.opened.now.element.now c.args.opened.now.attributes.now ns d p nodes) st read (sym c.place-end.ensures) c.finish.ensures)
