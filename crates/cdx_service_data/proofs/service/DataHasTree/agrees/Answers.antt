use Rattle.std.proofs.Common.{◌∙◌}
use Rattle.cdx_models.specs.Trees.{list_tree}
use Rattle.cdx_models.specs.EqualLaws.{equal_laws}
use Rattle.cdx_service_data.specs.Records.{classification_tree, service_entry}
use Rattle.cdx_service_data.proofs.service.DataHasTree.agrees.Goals as goal

pub returns-in-ServiceData-Classification : goal.returns-in-ServiceData-Classification
returns-in-ServiceData-Classification c =
    rw (c.in-ServiceData-Classification.is-0, c.in-ServiceData-Classification.is-1) (c.equal_entries-in-ServiceData-Classification.ensures ∙ (equal_laws (λ t. t)).symm (list_tree classification_tree c.in-ServiceData-Classification.other) (list_tree service_entry c.in-ServiceData-Classification.one))
