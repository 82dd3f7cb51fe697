use Rattle.cdx_bom.proofs.Grouped.{bill_kept}
use Rattle.cdx_bom.proofs.json.BomKept.kept_as.Goals as goal

pub returns : goal.returns
returns c = bill_kept c.args.keeping.version c.args.keeping.label _ c.args.self.now _ _ c.assemble.ensures c.in_ok-inventory.ensures c.in_ok-relations.ensures
