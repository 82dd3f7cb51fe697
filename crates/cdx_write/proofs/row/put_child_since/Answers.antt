use Rattle.cdx_models.specs.Trees.{present}
use Rattle.cdx_write.specs.WrittenRows.{child_written, late_written}
use Rattle.cdx_write.proofs.RowWords.{appends_same, nothing_added, late_known, late_unknown}
use Rattle.cdx_write.proofs.row.put_child_since.Goals as goal

pub returns-then-is_known_to : goal.returns-then-is_known_to
returns-then-is_known_to g c =
    let row = child_written c.args.name.now g.T.Kinded.kind (present g.T.HasTree.tree c.args.held.now) c.args.target.version in
    appends_same c.args.writer.now c.put_child.new.writer row (late_written c.args.since c.args.target.version row) c.put_child.result
    (late_known c.args.since c.args.target.version c.is_known_to.result row c.is_known_to.ensures c.if-is_known_to.true) c.put_child.ensures

pub returns-else-is_known_to : goal.returns-else-is_known_to
returns-else-is_known_to g c =
    let row = child_written c.args.name.now g.T.Kinded.kind (present g.T.HasTree.tree c.args.held.now) c.args.target.version in
    nothing_added c.args.writer.now _ (late_unknown c.args.since c.args.target.version c.is_known_to.result row c.is_known_to.ensures c.if-is_known_to.false)
