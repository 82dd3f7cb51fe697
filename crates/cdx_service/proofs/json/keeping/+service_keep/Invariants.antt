use Rattle.std.proofs.Common.{◌≡◌, map, take}
use Rattle.cdx_models.specs.Trees.{service}
use Rattle.cdx_schema.specs.Kinds.{a_record}
use Rattle.cdx_schema.specs.Keeping.{kept}
use Rattle.cdx_service.specs.Trees.{service_tree, service_items}
use Rattle.cdx_service.proofs.json.keeping.+service_keep.Given as goal

abbrev pub invariant-keep_services-loop-item : goal.invariant-keep_services-loop-item
invariant-keep_services-loop-item l = map service_tree (service_items l.copies) ≡ map (λ x. kept l.keeping.version l.keeping.label (service_tree x) (a_record service)) (take l.item-index l.item-items)
