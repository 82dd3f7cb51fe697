use Rattle.std.proofs.Common.{ap}
use Rattle.cdx_models.specs.Trees.{text, with_field}
use Rattle.cdx_models.specs.Records.{contact_tree}
use Rattle.cdx_leaf.specs.Parts.{entity_slots}
use Rattle.cdx_machine.proofs.Names.{more_put}
use Rattle.cdx_machine.proofs.OnRows.{on_rows}
use Rattle.cdx_push_models.proofs.organization.EntityChildrenPushRecord.put.Goals as goal

pub returns-in_ok-push_into-in-Other-This : goal.returns-in_ok-push_into-in-Other-This
unfolding on_rows
returns-in_ok-push_into-in-Other-This c = rw (c.in-Other-This.is, c.in-Other-This.field-0-is) (ap (λ t. with_field 2 t (entity_slots c.args.part.now)) (more_put text c.args.part.now.url _ _ c.in_ok-push_into-in-Other-This.ensures))

pub returns-in_ok-push_into-in-Other-Other : goal.returns-in_ok-push_into-in-Other-Other
unfolding on_rows
returns-in_ok-push_into-in-Other-Other c = rw (c.in-Other-Other.is, c.in-Other-Other.field-0-is) (ap (λ t. with_field 3 t (entity_slots c.args.part.now)) (more_put contact_tree c.args.part.now.contact _ _ c.in_ok-push_into-in-Other-Other.ensures))
