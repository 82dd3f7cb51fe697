use Rattle.std.proofs.Common.{refl, ap, ◌∙◌}
use Rattle.cdx_models.specs.Trees.{present, list_tree}
use Rattle.cdx_models.specs.Records.{contact_tree}
use Rattle.cdx_schema.specs.Kinds.{contacts}
use Rattle.cdx_losses.specs.LeftOut.{contacts_row, is_left_out}
use Rattle.cdx_losses.proofs.Gone.{held_reason, listed_reason}
use Rattle.cdx_losses.proofs.leaves.hollow.contacts_reason.Goals as goal

pub returns-in-Some : goal.returns-in-Some
returns-in-Some c =
    held_reason (list_tree contact_tree) c.args.road.version c.args.road.trips contacts_row c.args.held.now c.in-Some.field-0 c.unwritten.result c.lacks_contacts.result (is_left_out (list_tree contact_tree c.in-Some.field-0)) c.in-Some.is c.unwritten.ensures (c.lacks_contacts.ensures ∙ ap (λ z. is_left_out (present (list_tree contact_tree) z)) c.in-Some.is) (listed_reason c.args.road.version c.args.road.trips contacts "contact" (list_tree contact_tree c.in-Some.field-0) refl)
