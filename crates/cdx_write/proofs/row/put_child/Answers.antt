use Rattle.cdx_write.proofs.RowWords.{nothing_added, child_none}
use Rattle.cdx_write.proofs.row.put_child.Goals as goal

pub returns-in-None : goal.returns-in-None
returns-in-None g c = rw c.in-None.is (nothing_added c.args.writer.now _ (child_none c.args.name.now g.T.Kinded.kind c.args.target.version))
