use Rattle.cdx_models.specs.Trees.{service}
use Rattle.cdx_schema.specs.Kinds.{a_record}
use Rattle.cdx_service.specs.Trees.{service_tree}
use Rattle.cdx_whole.proofs.Lists.{ToldTo}
use Rattle.cdx_whole.proofs.services.+service_told.Given as goal

abbrev pub invariant-tell_services-loop-item : goal.invariant-tell_services-loop-item
invariant-tell_services-loop-item l = ToldTo service_tree (a_record service) l.item-items l.item-index
