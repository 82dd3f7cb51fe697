use Rattle.cdx_models.specs.Trees.{list_tree, each, issue}
use Rattle.cdx_patch.specs.Records.{issue_tree}
use Rattle.cdx_schema.specs.Kinds.{a_list, a_record, resolved}
use Rattle.cdx_losses.specs.Losses.{items_lost}
use Rattle.cdx_losses.specs.Walks.{value_lost}
use Rattle.cdx_losses.proofs.Walks.{ok_same}
use Rattle.cdx_losses.proofs.Values.{list_is, resolved_held}
use Rattle.cdx_losses.proofs.leaves.ItemsIssueLosing.lose.Goals as goal

pub returns : goal.returns
returns c =
    ok_same c.lose_items.result (items_lost c.args.road.version c.args.road.trips (each issue_tree c.as_slice.result.now) (a_record issue) 0) (value_lost c.args.road (list_tree issue_tree c.args.self.now) (a_list resolved)) c.args.walk.now c.lose_items.new.walk (list_is issue_tree c.args.road (a_list resolved) (a_record issue) c.args.self.now c.as_slice.result.now resolved_held c.as_slice.ensures) c.lose_items.ensures
