use Rattle.cdx_models.specs.Trees.{list_tree, each, composition}
use Rattle.cdx_relations.specs.Records.{composition_tree}
use Rattle.cdx_schema.specs.Kinds.{a_list, a_record, compositions}
use Rattle.cdx_losses.specs.Losses.{items_lost}
use Rattle.cdx_losses.specs.Walks.{value_lost}
use Rattle.cdx_losses.proofs.Walks.{ok_same}
use Rattle.cdx_losses.proofs.Values.{list_is, compositions_held}
use Rattle.cdx_losses.proofs.leaves.CompositionsLosing.lose.Goals as goal

pub returns : goal.returns
returns c =
    ok_same c.lose_items.result (items_lost c.args.road.version c.args.road.trips (each composition_tree c.as_slice.result.now) (a_record composition) 0) (value_lost c.args.road (list_tree composition_tree c.args.self.now.0) (a_list compositions)) c.args.walk.now c.lose_items.new.walk (list_is composition_tree c.args.road (a_list compositions) (a_record composition) c.args.self.now.0 c.as_slice.result.now compositions_held c.as_slice.ensures) c.lose_items.ensures
