-- The trees of a service's rows while its children are read.
use Rattle.std.specs.Prelude.{[], ◌∷◌}
use Rattle.cdx_models.specs.Trees.{text, Trees, ◌⧺◌, trees, present}
use Rattle.cdx_models.specs.Records.{entity_tree}
use Rattle.cdx_service.specs.PartTrees.{service_access_trees, service_contents_trees}
use Rattle.cdx_service.specs.declared.xml.reading.parts.NamingPart.{NamingPart}
use Rattle.cdx_service.specs.declared.xml.reading.parts.ServicePart.{ServicePart}

abbrev pub naming_part : NamingPart → Trees
naming_part p = trees (present text p.bom_ref ∷ present entity_tree p.provider ∷ present text p.group ∷ present text p.name ∷ present text p.version ∷ present text p.description ∷ [])

abbrev pub service_part : ServicePart → Trees
service_part p = naming_part p.naming ⧺ (service_access_trees p.access ⧺ service_contents_trees p.contents)
