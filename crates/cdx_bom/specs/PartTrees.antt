-- The trees of the fields that a reader or a copy makes together.
use Rattle.std.specs.Prelude.{[], ◌∷◌}
use Rattle.cdx_models.specs.Trees.{number, Trees, trees, present}
use Rattle.cdx_models.specs.Records.{urn_tree, references_tree, properties_tree}
use Rattle.cdx_relations.specs.Records.{dependencies_tree, compositions_tree}
use Rattle.cdx_signature.specs.Records.{signature_tree}
use Rattle.cdx_nest.specs.Nested.{components_tree, services_tree}
use Rattle.cdx_nest.specs.Trees.{metadata_tree}
use Rattle.cdx_bom.specs.Trees.{label_tree}
use Rattle.cdx_bom.specs.declared.bom.parts.Inventory.{Inventory}
use Rattle.cdx_bom.specs.declared.bom.parts.Relations.{Relations}

abbrev pub inventory_trees : Inventory → Trees
inventory_trees p = trees (label_tree p.spec_version ∷ number p.version ∷ present urn_tree p.serial_number ∷ present metadata_tree p.metadata ∷ present components_tree p.components ∷ present services_tree p.services ∷ [])

abbrev pub relations_trees : Relations → Trees
relations_trees p = trees (present references_tree p.external_references ∷ present dependencies_tree p.dependencies ∷ present compositions_tree p.compositions ∷ present properties_tree p.properties ∷ present signature_tree p.signature ∷ [])
