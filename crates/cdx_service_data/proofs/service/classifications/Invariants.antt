use Rattle.std.proofs.Common.{◌≡◌, map, take}
use Rattle.cdx_service_data.specs.Records.{classification_tree, service_classification}
use Rattle.cdx_service_data.proofs.service.classifications.Given as goal

abbrev pub invariant-loop-item : goal.invariant-loop-item
invariant-loop-item l = map classification_tree l.copies ≡ map service_classification (take l.item-index l.item-items)
