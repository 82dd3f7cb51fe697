use Rattle.cdx_write.specs.Spelling.{spelled_events}
use Rattle.cdx_write.specs.Listed.{item_put}
use Rattle.cdx_write.proofs.RowWords.{appends_same, nothing_added}
use Rattle.cdx_write.proofs.Lists.{item_passed, item_there}
use Rattle.cdx_write.proofs.list.write_item.Goals as goal

pub returns-then-is_passed_over : goal.returns-then-is_passed_over
returns-then-is_passed_over g c =
    nothing_added c.args.writer.now _ (item_passed c.args.tag.now g.T.Kinded.kind (g.T.HasTree.tree c.args.held.now) c.args.target.version c.is_passed_over.result g.met.T.Element.keeps c.is_passed_over.ensures c.if-is_passed_over.true)

pub returns-else-is_passed_over : goal.returns-else-is_passed_over
returns-else-is_passed_over g c =
    let k = g.T.Kinded.kind in
    let t = g.T.HasTree.tree c.args.held.now in
    appends_same c.args.writer.now c.write_as.new.writer (spelled_events t c.args.target.version c.args.tag.now k) (item_put c.args.tag.now k t c.args.target.version) c.write_as.result
    (item_there c.args.tag.now k t c.args.target.version c.is_passed_over.result g.met.T.Element.keeps c.is_passed_over.ensures c.if-is_passed_over.false) c.write_as.ensures
