use Rattle.cdx_write.specs.Spelling.{spelled_events}
use Rattle.cdx_write.specs.WrittenRows.{child_written}
use Rattle.cdx_write.proofs.RowWords.{appends_same, child_there}
use Rattle.cdx_write.proofs.row.put_required_child.Goals as goal

pub returns : goal.returns
returns g c =
    let t = g.T.HasTree.tree c.args.held.now in
    let k = g.T.Kinded.kind in
    appends_same c.args.writer.now c.write_as.new.writer (spelled_events t c.args.target.version c.args.name.now k) (child_written c.args.name.now k t c.args.target.version) c.write_as.result
    (child_there c.args.name.now k t c.args.target.version g.met.T.Element.keeps (g.met.T.HasTree.there c.args.held.now)) c.write_as.ensures
