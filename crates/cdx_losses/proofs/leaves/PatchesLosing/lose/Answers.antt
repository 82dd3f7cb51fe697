use Rattle.cdx_models.specs.Trees.{list_tree, each, patch}
use Rattle.cdx_patch.specs.Records.{patch_tree}
use Rattle.cdx_schema.specs.Kinds.{a_list, a_record, patches}
use Rattle.cdx_losses.specs.Losses.{items_lost}
use Rattle.cdx_losses.specs.Walks.{value_lost}
use Rattle.cdx_losses.proofs.Walks.{ok_same}
use Rattle.cdx_losses.proofs.Values.{list_is, patches_held}
use Rattle.cdx_losses.proofs.leaves.PatchesLosing.lose.Goals as goal

pub returns : goal.returns
returns c =
    ok_same c.lose_items.result (items_lost c.args.road.version c.args.road.trips (each patch_tree c.as_slice.result.now) (a_record patch) 0) (value_lost c.args.road (list_tree patch_tree c.args.self.now.0) (a_list patches)) c.args.walk.now c.lose_items.new.walk (list_is patch_tree c.args.road (a_list patches) (a_record patch) c.args.self.now.0 c.as_slice.result.now patches_held c.as_slice.ensures) c.lose_items.ensures
