use Rattle.std.proofs.Common.{refl, ◌&&◌}
use Rattle.cdx_models.specs.Trees.{present, text, list_tree}
use Rattle.cdx_models.specs.Records.{contact_tree}
use Rattle.cdx_losses.specs.LeftOut.{is_left_out}
use Rattle.cdx_trips.proofs.Childless.{then_second, else_first}
use Rattle.cdx_losses.proofs.Gone.{entity_hollow_after}
use Rattle.cdx_losses.proofs.leaves.hollow.is_hollow_after.Goals as goal

pub returns-then-is_none : goal.returns-then-is_none
returns-then-is_none c =
    then_second c.is_none.result c.lacks_lists.result _ c.if-is_none.true (entity_hollow_after c.args.entity.now c.is_none.result c.lacks_lists.result c.is_none.ensures c.lacks_lists.ensures)

pub returns-else-is_none : goal.returns-else-is_none
returns-else-is_none c =
    else_first c.is_none.result (is_left_out (present (list_tree text) c.args.entity.now.url) && is_left_out (present (list_tree contact_tree) c.args.entity.now.contact)) _ c.if-is_none.false (entity_hollow_after c.args.entity.now c.is_none.result (is_left_out (present (list_tree text) c.args.entity.now.url) && is_left_out (present (list_tree contact_tree) c.args.entity.now.contact)) c.is_none.ensures refl)
