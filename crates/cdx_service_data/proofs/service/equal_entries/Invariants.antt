use Rattle.std.proofs.Common.{◌≡◌, drop}
use Rattle.cdx_models.specs.Equal.{equal_each}
use Rattle.cdx_models.specs.Trees.{each}
use Rattle.cdx_models.specs.Entries.{entry_of}
use Rattle.cdx_service_data.specs.Records.{service_entry}
use Rattle.cdx_service_data.proofs.service.equal_entries.Given as goal

abbrev pub invariant-loop-i : goal.invariant-loop-i
invariant-loop-i g l =
    equal_each (each (λ x. entry_of (g.T.HasTree.tree x)) (drop l.i l.one)) (each service_entry (drop l.i l.other)) ≡ equal_each (each (λ x. entry_of (g.T.HasTree.tree x)) l.one) (each service_entry l.other)
