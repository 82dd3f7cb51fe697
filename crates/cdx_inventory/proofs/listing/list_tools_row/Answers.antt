use Rattle.std.proofs.Common.{codes}
use Rattle.cdx_schema.specs.Kinds.{a_tools}
use Rattle.cdx_schema.specs.Faults.{to_member}
use Rattle.cdx_nest.specs.Trees.{tools_tree}
use Rattle.cdx_inventory.proofs.Walks.{adds_absent, adds_row}
use Rattle.cdx_inventory.proofs.listing.list_tools_row.Goals as goal

pub returns-in-None : goal.returns-in-None
returns-in-None c = adds_absent tools_tree a_tools (to_member (codes "tools")) c.args.held.now c.args.path.now.items c.args.entries.now c.in-None.is

pub returns-in_ok-list_tools-in-Some : goal.returns-in_ok-list_tools-in-Some
returns-in_ok-list_tools-in-Some c =
    adds_row tools_tree a_tools (to_member (codes "tools")) c.in-Some.held c.args.held.now c.args.path.now.items c.enter_member.new.path.items c.list_tools.new.path.items c.leave.new.path.items c.steps_in-depth.result c.args.entries.now c.list_tools.new.entries
    c.in-Some.is c.in_ok-enter_member-in-Some.ensures c.steps_in-depth.ensures c.leave.ensures c.in_ok-list_tools-in-Some.ensures
