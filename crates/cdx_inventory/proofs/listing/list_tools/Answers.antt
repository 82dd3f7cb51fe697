use Rattle.std.proofs.Common.{codes, [], ◌++◌, ap, ◌∙◌}
use Rattle.cdx_models.specs.Trees.{present}
use Rattle.cdx_schema.specs.Kinds.{a_tools, a_list, components}
use Rattle.cdx_schema.specs.Faults.{to_member}
use Rattle.cdx_component.specs.Trees.{components_tree}
use Rattle.cdx_nest.specs.Trees.{tools_tree}
use Rattle.cdx_ways.specs.Ways.{behind_step}
use Rattle.cdx_inventory.specs.Listing.{listed_in}
use Rattle.cdx_inventory.proofs.Walks.{tools_unlisted, object_listed, adds_same, adds_none, adds_end}
use Rattle.cdx_inventory.proofs.listing.list_tools.Goals as goal

pub returns-in-List : goal.returns-in-List
returns-in-List c =
    adds_same [] (listed_in (tools_tree c.args.tools.now) a_tools) c.args.path.now.items c.args.path.now.items c.args.entries.now c.args.entries.now
    (ap (λ z. listed_in (tools_tree z) a_tools) c.in-List.is ∙ tools_unlisted c.in-List.field-0) (adds_none c.args.path.now.items c.args.entries.now)

pub returns-in_ok-list_components_row-in-Object : goal.returns-in_ok-list_components_row-in-Object
returns-in_ok-list_components_row-in-Object c =
    let row = behind_step (to_member (codes "components")) (listed_in (present components_tree c.in-Object.components) (a_list components)) in
    let p = c.args.path.now.items in
    let q = c.list_components_row.new.path.items in
    let e = c.args.entries.now in
    let f = c.list_components_row.new.entries in
    adds_same (row ++ []) (listed_in (tools_tree c.args.tools.now) a_tools) p q e f (ap (λ z. listed_in (tools_tree z) a_tools) c.in-Object.is ∙ object_listed c.in-Object.services c.in-Object.components) (adds_end row p q e f c.in_ok-list_components_row-in-Object.ensures)
