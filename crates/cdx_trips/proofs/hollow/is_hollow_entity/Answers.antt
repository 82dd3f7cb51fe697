use Rattle.std.proofs.Common.{refl, not, ◌&&◌}
use Rattle.std.specs.Prelude.{is_some}
use Rattle.cdx_trips.proofs.Childless.{then_second, else_first, entity_hollow}
use Rattle.cdx_trips.proofs.hollow.is_hollow_entity.Goals as goal

pub returns-then-is_none : goal.returns-then-is_none
returns-then-is_none c =
    then_second c.is_none.result c.has_no_list.result _ c.if-is_none.true (entity_hollow c.args.entity.now c.is_none.result c.has_no_list.result c.is_none.ensures c.has_no_list.ensures)

pub returns-else-is_none : goal.returns-else-is_none
returns-else-is_none c =
    else_first c.is_none.result (not (is_some c.args.entity.now.url) && not (is_some c.args.entity.now.contact)) _ c.if-is_none.false (entity_hollow c.args.entity.now c.is_none.result (not (is_some c.args.entity.now.url) && not (is_some c.args.entity.now.contact)) c.is_none.ensures refl)
