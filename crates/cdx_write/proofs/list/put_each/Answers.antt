use Rattle.cdx_schema.specs.Kinds.{a_list}
use Rattle.cdx_write.proofs.RowWords.{nothing_added, inner_none}
use Rattle.cdx_write.proofs.list.put_each.Goals as goal

pub returns-in-None : goal.returns-in-None
returns-in-None g c = λ l is. rw c.in-None.is (nothing_added c.args.writer.now _ (inner_none c.args.target.version (a_list l)))

pub returns-in-Some : goal.returns-in-Some
returns-in-Some g c = λ l is. rw c.in-Some.is (c.write_items.ensures l is)
