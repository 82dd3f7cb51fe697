use Rattle.std.proofs.Common.{[], sym, ap, ◌∙◌}
use Rattle.cdx_models.specs.Trees.{present}
use Rattle.cdx_schema.specs.Faults.{to_member}
use Rattle.cdx_ways.specs.Ways.{behind_step}
use Rattle.cdx_losses.specs.Losses.{entry_or}
use Rattle.cdx_losses.specs.Walks.{value_lost}
use Rattle.cdx_losses.proofs.Walks.{ok_same}
use Rattle.cdx_losses.proofs.Values.{entry_there, no_entry}
use Rattle.cdx_losses.proofs.losing.lose_row_or.Goals as goal

pub returns-then-is_some : goal.returns-then-is_some
returns-then-is_some g c =
    ok_same c.record_member.result (behind_step (to_member c.args.name.now) (entry_or c.args.reason [])) (behind_step (to_member c.args.name.now) (entry_or c.args.reason (value_lost c.args.road (present g.T.Losing.tree c.args.held.now) g.T.Losing.kind))) c.args.walk.now c.record_member.new.self (ap (behind_step (to_member c.args.name.now)) (entry_there c.args.reason (value_lost c.args.road (present g.T.Losing.tree c.args.held.now) g.T.Losing.kind) (sym c.is_some.ensures ∙ c.if-is_some.true))) c.record_member.ensures

pub returns-else-is_some : goal.returns-else-is_some
returns-else-is_some g c =
    ok_same c.lose_row.result (behind_step (to_member c.args.name.now) (value_lost c.args.road (present g.T.Losing.tree c.args.held.now) g.T.Losing.kind)) (behind_step (to_member c.args.name.now) (entry_or c.args.reason (value_lost c.args.road (present g.T.Losing.tree c.args.held.now) g.T.Losing.kind))) c.args.walk.now c.lose_row.new.walk (ap (behind_step (to_member c.args.name.now)) (no_entry c.args.reason (value_lost c.args.road (present g.T.Losing.tree c.args.held.now) g.T.Losing.kind) (sym c.is_some.ensures ∙ c.if-is_some.false))) c.lose_row.ensures
