-- The trees of the fields that a reader or a copy makes together.
use Rattle.std.specs.Prelude.{[], ◌∷◌}
use Rattle.cdx_models.specs.Trees.{text, boolean, Trees, trees, present, list_tree}
use Rattle.cdx_models.specs.Records.{entity_tree, references_tree, properties_tree}
use Rattle.cdx_license.specs.Records.{licenses_tree}
use Rattle.cdx_signature.specs.Records.{signature_tree}
use Rattle.cdx_service_data.specs.Records.{data_tree}
use Rattle.cdx_service.specs.Trees.{services_tree}
use Rattle.cdx_service.specs.declared.service.parts.ServiceNaming.{ServiceNaming}
use Rattle.cdx_service.specs.declared.service.parts.ServiceAccess.{ServiceAccess}
use Rattle.cdx_service.specs.declared.service.parts.ServiceContents.{ServiceContents}

abbrev pub service_naming_trees : ServiceNaming → Trees
service_naming_trees p = trees (present text p.bom_ref ∷ present entity_tree p.provider ∷ present text p.group ∷ text p.name ∷ present text p.version ∷ present text p.description ∷ [])

abbrev pub service_access_trees : ServiceAccess → Trees
service_access_trees p = trees (present (list_tree text) p.endpoints ∷ present boolean p.authenticated ∷ present boolean p.x_trust_boundary ∷ present data_tree p.data_items ∷ present licenses_tree p.licenses ∷ present references_tree p.external_references ∷ [])

abbrev pub service_contents_trees : ServiceContents → Trees
service_contents_trees p = trees (present properties_tree p.properties ∷ present services_tree p.services ∷ present signature_tree p.signature ∷ present text p.trust_zone ∷ [])
