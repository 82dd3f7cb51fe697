use Rattle.cdx_schema.specs.Faults.{to_member}
use Rattle.cdx_losses.specs.Walks.{value_lost}
use Rattle.cdx_losses.proofs.Walks.{absent_lost, adds_row, adds_absent}
use Rattle.cdx_losses.proofs.losing.lose_row.Goals as goal

pub returns-in-None : goal.returns-in-None
returns-in-None g c = adds_absent g.T.Losing.tree (λ t. value_lost c.args.road t g.T.Losing.kind) (to_member c.args.name.now) c.args.held.now c.args.walk.now (absent_lost c.args.road g.T.Losing.kind) c.in-None.is

pub returns-in_ok-lose-in-Some : goal.returns-in_ok-lose-in-Some
returns-in_ok-lose-in-Some g c =
    adds_row g.T.Losing.tree (λ t. value_lost c.args.road t g.T.Losing.kind) (to_member c.args.name.now) c.in-Some.held c.args.held.now c.args.walk.now c.enter_member.new.self c.lose.new.walk c.leave.new.self c.depth-depth.result
    c.in-Some.is c.in_ok-enter_member-in-Some.ensures.path c.enter_member.ensures.losses c.in_ok-lose-in-Some.ensures c.depth-depth.ensures c.leave.ensures.path c.leave.ensures.losses
