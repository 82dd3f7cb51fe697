use Rattle.cdx_models.specs.Trees.{list_tree}
use Rattle.cdx_schema.specs.Kinds.{a_list}
use Rattle.cdx_write.specs.Spelling.{spelled_events}
use Rattle.cdx_write.specs.WrittenRows.{child_written}
use Rattle.cdx_write.proofs.RowWords.{appends_same, nothing_added, child_none}
use Rattle.cdx_write.proofs.Lists.{list_child}
use Rattle.cdx_write.proofs.list.put_list.Goals as goal

pub returns-in-None : goal.returns-in-None
returns-in-None g c = λ l is. rw c.in-None.is (nothing_added c.args.writer.now _ (child_none c.args.name.now (a_list l) c.args.target.version))

pub returns-in-Some : goal.returns-in-Some
returns-in-Some g c = λ l is.
    let xs = c.in-Some.held in
    let t = list_tree g.T.HasTree.tree xs in
    rw c.in-Some.is (appends_same c.args.writer.now c.write_list.new.writer (spelled_events t c.args.target.version c.args.name.now (a_list l)) (child_written c.args.name.now (a_list l) t c.args.target.version) c.write_list.result
    (list_child g.T.HasTree.tree c.args.name.now l c.args.target.version xs) (c.write_list.ensures l is))
