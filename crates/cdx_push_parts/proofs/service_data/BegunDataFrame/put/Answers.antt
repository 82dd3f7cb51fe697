use Rattle.cdx_models.specs.Trees.{two}
use Rattle.cdx_leaf.specs.Trees.{collected}
use Rattle.cdx_service_data.specs.Records.{classification_tree, service_entry}
use Rattle.cdx_machine.proofs.Names.{push_put}
use Rattle.cdx_push_parts.proofs.service_data.BegunDataFrame.put.Goals as goal

pub returns-in-This : goal.returns-in-This
returns-in-This c = rw c.in-This.is (push_put classification_tree (λ t. two t (collected service_entry c.args.self.now.part.flows)) c.args.self.now.part.classifications c.push.new.self c.in-This.classification c.push.result c.push.ensures.ok)

pub returns-in-Other : goal.returns-in-Other
returns-in-Other c = rw c.in-Other.is (push_put service_entry (λ t. two (collected classification_tree c.args.self.now.part.classifications) t) c.args.self.now.part.flows c.push-in-Other.new.self c.in-Other.flow c.push-in-Other.result c.push-in-Other.ensures.ok)
