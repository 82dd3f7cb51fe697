use Rattle.std.proofs.Common.{refl}
use Rattle.std.specs.Prelude.{◌||◌}
use Rattle.cdx_models.specs.Records.{entity_tree}
use Rattle.cdx_losses.specs.LeftOut.{supplier_row, after_two_trips}
use Rattle.cdx_losses.proofs.Gone.{held_reason, supplier_reason}
use Rattle.cdx_schema.specs.Trips.{is_hollow, bare}
use Rattle.cdx_losses.proofs.Gone as gone
use Rattle.cdx_losses.proofs.leaves.hollow.supplier_reason.Goals as goal

pub returns-in-Some : goal.returns-in-Some
returns-in-Some c =
    held_reason entity_tree c.args.road.version c.args.road.trips supplier_row c.args.held.now c.in-Some.entity c.unwritten.result c.is_supplier_left_out.result (is_hollow (entity_tree c.in-Some.entity) || after_two_trips c.args.road.trips (is_hollow (bare (entity_tree c.in-Some.entity)))) c.in-Some.is c.unwritten.ensures c.is_supplier_left_out.ensures (gone.supplier_reason c.args.road.version c.args.road.trips (entity_tree c.in-Some.entity) refl)
