use Rattle.std.proofs.Common.{◌≡◌, drop}
use Rattle.cdx_models.specs.Trees.{each}
use Rattle.cdx_models.specs.Equal.{equal_each}
use Rattle.cdx_service.specs.Trees.{service_tree, service_items}
use Rattle.cdx_service.proofs.service.compared.+service_equal.Given as goal

abbrev pub invariant-equal_services-loop-i : goal.invariant-equal_services-loop-i
invariant-equal_services-loop-i l =
    equal_each (each service_tree (drop l.i (service_items l.one))) (each service_tree (drop l.i (service_items l.other))) ≡ equal_each (each service_tree (service_items l.one)) (each service_tree (service_items l.other))
