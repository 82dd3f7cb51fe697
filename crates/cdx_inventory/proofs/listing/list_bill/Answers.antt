use Rattle.std.proofs.Common.{codes, [], ◌++◌, rules}
use Rattle.cdx_models.specs.Trees.{metadata, present}
use Rattle.cdx_schema.specs.Kinds.{a_list, components, a_record}
use Rattle.cdx_schema.specs.Faults.{to_member}
use Rattle.cdx_component.specs.Trees.{components_tree}
use Rattle.cdx_nest.specs.Trees.{metadata_tree}
use Rattle.cdx_ways.specs.Ways.{behind_step}
use Rattle.cdx_inventory.specs.Listing.{listed_in}
use Rattle.cdx_inventory.proofs.Walks.{bill_told, adds_both, adds_end}
use Rattle.cdx_inventory.proofs.listing.list_bill.Goals as goal

pub returns : goal.returns
returns c =
    let x = c.args.bill.now in
    let first = behind_step (to_member (codes "metadata")) (listed_in (present metadata_tree x.metadata) (a_record metadata)) in
    let second = behind_step (to_member (codes "components")) (listed_in (present components_tree x.components) (a_list components)) in
    let p = c.new-path.result.items in
    let q = c.list_metadata_row.new.path.items in
    let r = c.list_components_row.new.path.items in
    let e = c.new-entries.result in
    let f = c.list_metadata_row.new.entries in
    let g = c.list_components_row.new.entries in
    bill_told x p r e g (search rules) c.new-entries.ensures
    (adds_both first (second ++ []) p q r e f g c.in_ok-list_metadata_row.ensures (adds_end second q r f g c.in_ok-list_components_row.ensures))
