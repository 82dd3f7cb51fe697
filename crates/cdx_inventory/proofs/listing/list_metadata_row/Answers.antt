use Rattle.std.proofs.Common.{codes}
use Rattle.cdx_schema.specs.Kinds.{a_record}
use Rattle.cdx_models.specs.Trees.{metadata}
use Rattle.cdx_schema.specs.Faults.{to_member}
use Rattle.cdx_nest.specs.Trees.{metadata_tree}
use Rattle.cdx_inventory.proofs.Walks.{adds_absent, adds_row}
use Rattle.cdx_inventory.proofs.listing.list_metadata_row.Goals as goal

pub returns-in-None : goal.returns-in-None
returns-in-None c = adds_absent metadata_tree (a_record metadata) (to_member (codes "metadata")) c.args.held.now c.args.path.now.items c.args.entries.now c.in-None.is

pub returns-in_ok-list_metadata-in-Some : goal.returns-in_ok-list_metadata-in-Some
returns-in_ok-list_metadata-in-Some c =
    adds_row metadata_tree (a_record metadata) (to_member (codes "metadata")) c.in-Some.held c.args.held.now c.args.path.now.items c.enter_member.new.path.items c.list_metadata.new.path.items c.leave.new.path.items c.steps_in-depth.result c.args.entries.now c.list_metadata.new.entries
    c.in-Some.is c.in_ok-enter_member-in-Some.ensures c.steps_in-depth.ensures c.leave.ensures c.in_ok-list_metadata-in-Some.ensures
