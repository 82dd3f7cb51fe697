use Rattle.std.proofs.Common.{[], refl, ap, ◌∙◌}
use Rattle.cdx_models.specs.Trees.{list_tree, each}
use Rattle.cdx_service_data.specs.Records.{service_entry, data_tree, classification_tree}
use Rattle.cdx_schema.specs.Kinds.{a_data, an_entry}
use Rattle.cdx_losses.specs.Losses.{items_lost}
use Rattle.cdx_losses.specs.Walks.{value_lost}
use Rattle.cdx_losses.proofs.Levels.{classifications_spared}
use Rattle.cdx_losses.proofs.Walks.{ok_same, adds_same, adds_none}
use Rattle.cdx_losses.proofs.Values.{value_nothing, list_is}
use Rattle.cdx_losses.proofs.leaves.DataLosing.lose.Goals as goal

pub returns-in-Classification : goal.returns-in-Classification
returns-in-Classification c =
    adds_same [] (value_lost c.args.road (data_tree c.args.self.now) a_data) c.args.walk.now c.args.walk.now (ap (λ z. value_lost c.args.road (data_tree z) a_data) c.in-Classification.is ∙ value_nothing c.args.road (list_tree classification_tree c.in-Classification.field-0) a_data (classifications_spared c.in-Classification.field-0)) (adds_none c.args.walk.now)

pub returns-in-ServiceData : goal.returns-in-ServiceData
returns-in-ServiceData c =
    ok_same c.lose_items.result (items_lost c.args.road.version c.args.road.trips (each service_entry c.as_slice.result.now) an_entry 0) (value_lost c.args.road (data_tree c.args.self.now) a_data) c.args.walk.now c.lose_items.new.walk (ap (λ z. value_lost c.args.road (data_tree z) a_data) c.in-ServiceData.is ∙ list_is service_entry c.args.road a_data an_entry c.in-ServiceData.entries c.as_slice.result.now refl c.as_slice.ensures) c.lose_items.ensures
