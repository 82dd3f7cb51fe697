-- The fields of service data while they are read.
use Rattle.std.specs.Prelude.{[], ◌∷◌}
use Rattle.cdx_models.specs.Trees.{Trees, trees, two, text, present}
use Rattle.cdx_leaf.specs.Trees.{collected}
use Rattle.cdx_service_data.specs.Records.{classification_tree, service_entry}
use Rattle.cdx_service_data.specs.declared.parts.ServiceDataPart.{ServiceDataPart}
use Rattle.cdx_service_data.specs.declared.parts.DataPart.{DataPart}

abbrev pub service_data_part : ServiceDataPart → Trees
service_data_part x = trees (present text x.name ∷ present text x.description ∷ present classification_tree x.classification ∷ [])

-- what was met so far of either sort
abbrev pub data_part : DataPart → Trees
data_part x = two (collected classification_tree x.classifications) (collected service_entry x.flows)
