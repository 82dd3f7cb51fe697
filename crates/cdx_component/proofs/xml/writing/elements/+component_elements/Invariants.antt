use Rattle.std.proofs.Common.{◌≡◌, ◌++◌, codes, take}
use Rattle.std.specs.List.{flat_map}
use Rattle.cdx_models.specs.Trees.{component}
use Rattle.cdx_schema.specs.Kinds.{a_record}
use Rattle.cdx_write.proofs.Lists.{items_put}
use Rattle.cdx_component.specs.Trees.{component_tree}
use Rattle.cdx_component.proofs.xml.writing.elements.+component_elements.Given as goal

abbrev pub invariant-write_items-loop-item : goal.invariant-write_items-loop-item
invariant-write_items-loop-item l = l.writer ≡ l.fn.writer ++ flat_map (items_put component_tree (codes "component") (a_record component) l.target.version) (take l.item-index l.item-items)
