use Rattle.cdx_leaf.proofs.Parts.{reads_list}
use Rattle.cdx_leaf.proofs.lists.read_list_by_rule.Goals as goal

pub returns : goal.returns
returns g c = reads_list g.X.HasTree.tree g.X.Kinded.kind g.X.FromXml.depth c.args.reader.now c.read_items.new.reader c.args.version c.args.element.now c.args.inner.now c.args.rule c.read_items.result c.read_items.ensures
