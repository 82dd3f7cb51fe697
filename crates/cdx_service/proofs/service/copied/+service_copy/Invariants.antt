use Rattle.std.proofs.Common.{◌≡◌, map, take}
use Rattle.cdx_service.specs.Trees.{service_tree, service_items}
use Rattle.cdx_service.proofs.service.copied.+service_copy.Given as goal

abbrev pub invariant-copy_services-loop-item : goal.invariant-copy_services-loop-item
invariant-copy_services-loop-item l = map service_tree (service_items l.copies) ≡ map service_tree (take l.item-index l.item-items)
