use Rattle.std.proofs.Common.{[], ◌∷◌, sym, ap, ◌∙◌}
use Rattle.cdx_nest.specs.Trees.{object_tree}
use Rattle.cdx_schema.specs.Kinds.{a_tools}
use Rattle.cdx_losses.specs.Losses.{lost, entry_or}
use Rattle.cdx_losses.specs.Walks.{value_lost}
use Rattle.cdx_losses.proofs.Walks.{ok_same}
use Rattle.cdx_losses.proofs.Values.{none_entry, some_entry}
use Rattle.cdx_losses.proofs.walking.lose_tools_object.Goals as goal

pub returns-in-Some : goal.returns-in-Some
returns-in-Some c =
    ok_same c.record.result (([], c.in-Some.reason) ∷ []) (value_lost c.args.road (object_tree c.args.services.now c.args.components.now) a_tools) c.args.walk.now c.record.new.self (ap (λ w. entry_or w (lost c.args.road.version c.args.road.trips (object_tree c.args.services.now c.args.components.now) a_tools)) (sym c.tools_reason.ensures) ∙ some_entry c.tools_reason.result c.in-Some.reason (lost c.args.road.version c.args.road.trips (object_tree c.args.services.now c.args.components.now) a_tools) c.in-Some.is) c.record.ensures

pub returns-in-None : goal.returns-in-None
returns-in-None c =
    ok_same c.lose_tools_parts.result (lost c.args.road.version c.args.road.trips (object_tree c.args.services.now c.args.components.now) a_tools) (value_lost c.args.road (object_tree c.args.services.now c.args.components.now) a_tools) c.args.walk.now c.lose_tools_parts.new.walk (ap (λ w. entry_or w (lost c.args.road.version c.args.road.trips (object_tree c.args.services.now c.args.components.now) a_tools)) (sym c.tools_reason.ensures) ∙ none_entry c.tools_reason.result (lost c.args.road.version c.args.road.trips (object_tree c.args.services.now c.args.components.now) a_tools) c.in-None.is) c.lose_tools_parts.ensures
