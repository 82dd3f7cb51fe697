use Rattle.cdx_models.specs.Trees.{list_tree, each, contact}
use Rattle.cdx_models.specs.Records.{contact_tree}
use Rattle.cdx_schema.specs.Kinds.{a_list, a_record, authors}
use Rattle.cdx_losses.specs.Losses.{items_lost}
use Rattle.cdx_losses.specs.Walks.{value_lost}
use Rattle.cdx_losses.proofs.Walks.{ok_same}
use Rattle.cdx_losses.proofs.Values.{list_is, authors_held}
use Rattle.cdx_losses.proofs.leaves.ItemsOrganizationalContactLosing.lose.Goals as goal

pub returns : goal.returns
returns c =
    ok_same c.lose_items.result (items_lost c.args.road.version c.args.road.trips (each contact_tree c.as_slice.result.now) (a_record contact) 0) (value_lost c.args.road (list_tree contact_tree c.args.self.now) (a_list authors)) c.args.walk.now c.lose_items.new.walk (list_is contact_tree c.args.road (a_list authors) (a_record contact) c.args.self.now c.as_slice.result.now authors_held c.as_slice.ensures) c.lose_items.ensures
