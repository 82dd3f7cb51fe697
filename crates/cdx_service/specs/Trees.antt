-- The trees of services and lists of services, a field for each row of the schema and in its order.
use Rattle.std.specs.Prelude.{List, [], ◌∷◌}
use Rattle.cdx_models.specs.Trees.{service, Tree, text, boolean, items, fields, Trees, ◌⧺◌, trees, present, list_tree}
use Rattle.cdx_models.specs.Records.{entity_tree, references_tree, properties_tree}
use Rattle.cdx_license.specs.Records.{licenses_tree}
use Rattle.cdx_signature.specs.Records.{signature_tree}
use Rattle.cdx_service_data.specs.Records.{data_tree}
use Rattle.cdx_models.specs.Trees.{as_is}
use Rattle.cdx_service.specs.declared.service.Service.{Service}
use Rattle.cdx_service.specs.declared.service.Service.TheOpen.{Service-F, Services-F}
use Rattle.cdx_service.specs.declared.service.Service.TheFolds.{fold-Service, fold-Services}
use Rattle.cdx_service.specs.declared.service.Services.{Services, out-Services}

-- ---- the fields of one level, in groups of at most six, with what stands for the tree of the nested list

abbrev pub service_naming : {S L : Type 0} → Service-F S L → Trees
service_naming s = trees (present text s.bom_ref ∷ present entity_tree s.provider ∷ present text s.group ∷ text s.name ∷ present text s.version ∷ present text s.description ∷ [])

abbrev pub service_access : {S L : Type 0} → Service-F S L → Trees
service_access s = trees (present (list_tree text) s.endpoints ∷ present boolean s.authenticated ∷ present boolean s.x_trust_boundary ∷ present data_tree s.data_items ∷ present licenses_tree s.licenses ∷ present references_tree s.external_references ∷ [])

abbrev pub service_contents : {S L : Type 0} → (L → Tree) → Service-F S L → Trees
service_contents services s = trees (present properties_tree s.properties ∷ present services s.services ∷ present signature_tree s.signature ∷ present text s.trust_zone ∷ [])

abbrev pub service_fields : {S L : Type 0} → (L → Tree) → Service-F S L → Trees
service_fields services s = service_naming s ⧺ (service_access s ⧺ service_contents services s)

-- ---- the trees

abbrev pub service_step : Service-F Tree Tree → Tree
service_step s = fields service (service_fields as_is s)

abbrev pub services_step : Services-F Tree Tree → Tree
services_step ss = items (trees ss.items.items)

abbrev pub service_tree : Service → Tree
service_tree = fold-Service Tree Tree service_step services_step

abbrev pub services_tree : Services → Tree
services_tree = fold-Services Tree Tree service_step services_step

-- the items of a list of services
abbrev pub service_items : Services → List Service
service_items ss = (out-Services ss).items.items
