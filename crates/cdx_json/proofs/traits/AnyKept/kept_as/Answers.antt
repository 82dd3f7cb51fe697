use Rattle.cdx_json.proofs.KeptRowsLaws.{record_is_kept}
use Rattle.cdx_json.proofs.traits.AnyKept.kept_as.Goals as goal

pub returns : goal.returns
returns g c = record_is_kept g.T.HasTree.tree c.kept_by_rows.result c.args.keeping.version c.args.keeping.label g.T.Record.name (g.T.HasTree.tree c.args.self.now) (g.met.T.Record.is_record c.args.self.now) c.kept_by_rows.ensures
