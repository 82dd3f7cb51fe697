use Rattle.std.proofs.Common.{Ok, Err, refl}
use Rattle.std.proofs.lemmas.Result.{err_from_is_err_and}
use Rattle.cdx_leaf.proofs.Parts.{reads_list}
use Rattle.cdx_leaf.proofs.take.take_list.Goals as goal

pub returns-in_err-read_items : goal.returns-in_err-read_items
returns-in_err-read_items g c = λ d p nodes rest st.
    let q = err_from_is_err_and c.from_residual.result c.from_residual.ensures.1 in
    rw (q.1, q.2) (reads_list g.X.HasTree.tree g.X.Kinded.kind g.X.FromXml.depth c.args.reader.now c.read_items.new.reader c.args.opened.now.version c.args.opened.now.element.now c.args.inner.now c.args.rule (Err c.in_err-read_items.field-0.0) c.in_err-read_items.ensures d p nodes rest st)

pub returns : goal.returns
returns g c = λ d p nodes rest st.
    let read = reads_list g.X.HasTree.tree g.X.Kinded.kind g.X.FromXml.depth c.args.reader.now c.read_items.new.reader c.args.opened.now.version c.args.opened.now.element.now c.args.inner.now c.args.rule (Ok c.in_ok-read_items.field-0) c.in_ok-read_items.ensures d p nodes rest st in
    (refl, read.0, read.1)
