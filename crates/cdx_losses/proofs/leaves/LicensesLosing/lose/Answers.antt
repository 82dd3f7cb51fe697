use Rattle.cdx_models.specs.Trees.{list_tree, each}
use Rattle.cdx_license.specs.Records.{choice_tree}
use Rattle.cdx_schema.specs.Kinds.{a_list, a_license_choice, licenses}
use Rattle.cdx_losses.specs.Losses.{items_lost}
use Rattle.cdx_losses.specs.Walks.{value_lost}
use Rattle.cdx_losses.proofs.Walks.{ok_same}
use Rattle.cdx_losses.proofs.Values.{list_is, licenses_held}
use Rattle.cdx_losses.proofs.leaves.LicensesLosing.lose.Goals as goal

pub returns : goal.returns
returns c =
    ok_same c.lose_items.result (items_lost c.args.road.version c.args.road.trips (each choice_tree c.as_slice.result.now) (a_license_choice) 0) (value_lost c.args.road (list_tree choice_tree c.args.self.now.0) (a_list licenses)) c.args.walk.now c.lose_items.new.walk (list_is choice_tree c.args.road (a_list licenses) (a_license_choice) c.args.self.now.0 c.as_slice.result.now licenses_held c.as_slice.ensures) c.lose_items.ensures
