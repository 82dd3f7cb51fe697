use Rattle.cdx_models.specs.Trees.{one}
use Rattle.cdx_license.specs.Records.{choice_tree}
use Rattle.cdx_machine.proofs.Names.{push_put}
use Rattle.cdx_machine.proofs.OnRows.{on_rows}
use Rattle.cdx_push_parts.proofs.licenses.BegunLicensesFrame.put.Goals as goal

pub returns-in-This : goal.returns-in-This
unfolding on_rows
returns-in-This c = rw c.in-This.is (push_put choice_tree (λ t. one t) c.args.self.now.items c.push.new.self c.in-This.license c.push.result c.push.ensures.ok)

pub returns-in-Other : goal.returns-in-Other
unfolding on_rows
returns-in-Other c = rw c.in-Other.is (push_put choice_tree (λ t. one t) c.args.self.now.items c.push-in-Other.new.self c.in-Other.expression c.push-in-Other.result c.push-in-Other.ensures.ok)
