use Rattle.cdx_schema.specs.Table.{list}
use Rattle.cdx_leaf.specs.Listing.{listing_slots}
use Rattle.cdx_component.specs.Trees.{component_tree, component_items}
use Rattle.cdx_component.proofs.frames.ComponentFrameNested.find.Goals as goal

pub returns-in-Components : goal.returns-in-Components
unfolding list
returns-in-Components c = rw c.in-Components.is (c.find_in_list.ensures c.args.version (listing_slots component_tree (component_items c.in-Components.field-0)))
