use Rattle.cdx_signature.specs.Records.{signer_tree}
use Rattle.cdx_push_relations.proofs.Signing.{chain_end}
use Rattle.cdx_push_relations.proofs.signature.BegunChainFrame.finish.Goals as goal

pub returns : goal.returns
returns c = chain_end signer_tree c.args.self.items c.args._closed.now.element.now.local_name c.args._closed.now.version c.args._closed.now.place
