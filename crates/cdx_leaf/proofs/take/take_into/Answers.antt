use Rattle.std.proofs.lemmas.Result.{err_from_is_err_and}
use Rattle.cdx_leaf.specs.Trees.{collected}
use Rattle.cdx_leaf.proofs.ChildSteps.{reads_more, more_fails}
use Rattle.cdx_leaf.proofs.take.take_into.Goals as goal

pub returns-in_err-item : goal.returns-in_err-item
returns-in_err-item g c =
    let q = err_from_is_err_and c.from_residual.result c.from_residual.ensures.1 in
    let before = collected g.X.HasTree.tree c.args.field.now in
    rw (q.1, q.2) (more_fails g.X.HasTree.tree before before c.in_err-item.field-0.0 c.args.reader.now c.read_from.new.reader c.args.opened.now.version g.X.Kinded.kind g.X.FromXml.depth c.args.opened.now.element.now c.args.opened.now.attributes.now c.in_err-item.ensures)

pub returns : goal.returns
returns g c =
    reads_more g.X.HasTree.tree c.args.field.now c.push.new.self c.in_ok-item.item c.args.reader.now c.read_from.new.reader c.args.opened.now.version g.X.Kinded.kind g.X.FromXml.depth c.args.opened.now.element.now c.args.opened.now.attributes.now c.in_ok-push.ensures.ok c.in_ok-item.ensures
