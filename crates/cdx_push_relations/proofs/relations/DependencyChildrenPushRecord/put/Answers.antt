use Rattle.cdx_models.specs.Trees.{text, with_field}
use Rattle.cdx_relations.specs.Parts.{dependency_part}
use Rattle.cdx_machine.proofs.Names.{push_put}
use Rattle.cdx_machine.proofs.OnRows.{on_rows}
use Rattle.cdx_push_relations.proofs.relations.DependencyChildrenPushRecord.put.Goals as goal

pub returns-in-This : goal.returns-in-This
unfolding on_rows
returns-in-This c = rw c.in-This.is (push_put text (λ t. with_field 1 t (dependency_part c.args.part.now)) c.args.part.now.depends_on c.push.new.self c.in-This.reference.0 c.push.result c.push.ensures.ok)
