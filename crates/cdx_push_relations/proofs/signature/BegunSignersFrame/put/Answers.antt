use Rattle.cdx_models.specs.Trees.{one}
use Rattle.cdx_signature.specs.Records.{signer_tree}
use Rattle.cdx_machine.proofs.Names.{push_put}
use Rattle.cdx_machine.proofs.OnRows.{on_rows}
use Rattle.cdx_push_relations.proofs.signature.BegunSignersFrame.put.Goals as goal

pub returns-in-This : goal.returns-in-This
unfolding on_rows
returns-in-This c = rw c.in-This.is (push_put signer_tree (λ t. one t) c.args.self.now.items c.push.new.self c.in-This.signer c.push.result c.push.ensures.ok)
