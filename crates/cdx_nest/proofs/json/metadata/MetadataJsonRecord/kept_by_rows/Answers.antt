use Rattle.cdx_nest.proofs.Grouped.{metadata_kept}
use Rattle.cdx_nest.proofs.json.metadata.MetadataJsonRecord.kept_by_rows.Goals as goal

pub returns : goal.returns
returns c = metadata_kept c.args.keeping.version c.args.keeping.label _ c.args.self.now _ _ c.assemble.ensures c.in_ok-makers.ensures c.in_ok-terms.ensures
