use Rattle.std.proofs.Common.{refl, not, ◌&&◌}
use Rattle.std.specs.Prelude.{is_some}
use Rattle.cdx_trips.proofs.Childless.{then_second, else_first, contact_hollow}
use Rattle.cdx_trips.proofs.hollow.is_hollow_contact.Goals as goal

pub returns-then-is_none : goal.returns-then-is_none
returns-then-is_none c =
    then_second c.is_none.result c.has_no_address.result _ c.if-is_none.true (contact_hollow c.args.contact.now c.is_none.result c.has_no_address.result c.is_none.ensures c.has_no_address.ensures)

pub returns-else-is_none : goal.returns-else-is_none
returns-else-is_none c =
    else_first c.is_none.result (not (is_some c.args.contact.now.email) && not (is_some c.args.contact.now.phone)) _ c.if-is_none.false (contact_hollow c.args.contact.now c.is_none.result (not (is_some c.args.contact.now.email) && not (is_some c.args.contact.now.phone)) c.is_none.ensures refl)
