use Rattle.std.proofs.Common.{codes, [], ◌++◌}
use Rattle.cdx_models.specs.Trees.{metadata, component, present}
use Rattle.cdx_schema.specs.Kinds.{a_tools, a_record}
use Rattle.cdx_schema.specs.Faults.{to_member}
use Rattle.cdx_component.specs.Trees.{component_tree}
use Rattle.cdx_nest.specs.Trees.{tools_tree, metadata_tree}
use Rattle.cdx_ways.specs.Ways.{behind_step}
use Rattle.cdx_inventory.specs.Listing.{listed_in}
use Rattle.cdx_inventory.proofs.Walks.{metadata_listed, adds_same, adds_both, adds_end}
use Rattle.cdx_inventory.proofs.listing.list_metadata.Goals as goal

pub returns : goal.returns
returns c =
    let x = c.args.held.now in
    let first = behind_step (to_member (codes "tools")) (listed_in (present tools_tree x.tools) a_tools) in
    let second = behind_step (to_member (codes "component")) (listed_in (present component_tree x.component) (a_record component)) in
    let p = c.args.path.now.items in
    let q = c.list_tools_row.new.path.items in
    let r = c.list_component_row.new.path.items in
    let e = c.args.entries.now in
    let f = c.list_tools_row.new.entries in
    let g = c.list_component_row.new.entries in
    adds_same (first ++ (second ++ [])) (listed_in (metadata_tree x) (a_record metadata)) p r e g (metadata_listed x)
    (adds_both first (second ++ []) p q r e f g c.in_ok-list_tools_row.ensures (adds_end second q r f g c.in_ok-list_component_row.ensures))
