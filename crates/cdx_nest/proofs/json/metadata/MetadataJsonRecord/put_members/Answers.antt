use Rattle.cdx_nest.proofs.Grouped.{metadata_put}
use Rattle.cdx_nest.proofs.json.metadata.MetadataJsonRecord.put_members.Goals as goal

pub returns : goal.returns
returns c = metadata_put c.args.self.now c.args.target.version _ _ _ c.in_ok-put_makers.ensures c.in_ok-put_terms.ensures
