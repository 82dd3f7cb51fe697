use Rattle.cdx_write.specs.WrittenRows.{child_written, filled_written}
use Rattle.cdx_write.proofs.RowWords.{appends_same, nothing_added, filled_none, filled_hollow, filled_there}
use Rattle.cdx_write.proofs.row.put_filled_child.Goals as goal

pub returns-in-None : goal.returns-in-None
returns-in-None g c = rw c.in-None.is (nothing_added c.args.writer.now _ (filled_none c.args.name.now g.T.Kinded.kind c.args.target.version))

pub returns-then-is_hollow : goal.returns-then-is_hollow
returns-then-is_hollow g c =
    let x = c.in-Some.held in
    rw c.in-Some.is (nothing_added c.args.writer.now _ (filled_hollow c.args.name.now g.T.Kinded.kind (g.T.HasTree.tree x) c.args.target.version c.is_hollow.result (g.met.T.Filled.keeps_hollow x) c.is_hollow.ensures c.if-is_hollow.true))

pub returns-else-is_hollow : goal.returns-else-is_hollow
returns-else-is_hollow g c =
    let x = c.in-Some.held in
    let k = g.T.Kinded.kind in
    let t = g.T.HasTree.tree x in
    rw c.in-Some.is (appends_same c.args.writer.now c.put_required_child.new.writer (child_written c.args.name.now k t c.args.target.version) (filled_written c.args.name.now k t c.args.target.version) c.put_required_child.result
    (filled_there c.args.name.now k t c.args.target.version c.is_hollow.result (g.met.T.Filled.keeps_hollow x) c.is_hollow.ensures c.if-is_hollow.false) c.put_required_child.ensures)
