-- The trees of the data of services, a field for each row of the schema and in its order.
use Rattle.std.specs.Prelude.{◌≡◌, refl, false, [], ◌∷◌}
use Rattle.cdx_models.specs.Trees.{classification, service_data, Tree, text, fields, trees, present, list_tree, is_absent}
use Rattle.cdx_models.specs.Entries.{entry_of}
use Rattle.cdx_service_data.specs.declared.service.DataClassification.{DataClassification}
use Rattle.cdx_service_data.specs.declared.service.ServiceData.{ServiceData}
use Rattle.cdx_service_data.specs.declared.service.Data.{Data}
use Rattle.cdx_service_data.specs.declared.service.Data.TheVariants as variant

abbrev pub classification_tree : DataClassification → Tree
classification_tree x = fields classification (trees (text x.flow ∷ text x.classification ∷ []))

abbrev pub service_data_tree : ServiceData → Tree
service_data_tree x = fields service_data (trees (present text x.name ∷ present text x.description ∷ classification_tree x.classification ∷ []))

-- what a service data is where only classifications are known
abbrev pub service_classification : ServiceData → Tree
service_classification x = classification_tree x.classification

-- what a service data is among a service's data
abbrev pub service_entry : ServiceData → Tree
service_entry x = entry_of (service_data_tree x)

abbrev pub data_tree : Data → Tree
data_tree (variant.Classification xs) = list_tree classification_tree xs
data_tree (variant.ServiceData xs) = list_tree service_entry xs

-- the tree of the data is a list's
pub data_there : (x : Data) → is_absent (data_tree x) ≡ false
data_there (variant.Classification xs) = refl
data_there (variant.ServiceData xs) = refl
