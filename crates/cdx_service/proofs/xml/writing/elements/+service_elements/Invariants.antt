use Rattle.std.proofs.Common.{◌≡◌, ◌++◌, codes, take}
use Rattle.std.specs.List.{flat_map}
use Rattle.cdx_models.specs.Trees.{service}
use Rattle.cdx_schema.specs.Kinds.{a_record}
use Rattle.cdx_write.proofs.Lists.{items_put}
use Rattle.cdx_service.specs.Trees.{service_tree}
use Rattle.cdx_service.proofs.xml.writing.elements.+service_elements.Given as goal

abbrev pub invariant-write_items-loop-item : goal.invariant-write_items-loop-item
invariant-write_items-loop-item l = l.writer ≡ l.fn.writer ++ flat_map (items_put service_tree (codes "service") (a_record service) l.target.version) (take l.item-index l.item-items)
