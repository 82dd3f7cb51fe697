-- The tree of a bill, a field for each row of the schema and in its order.
use Rattle.std.specs.Prelude.{[], ◌∷◌}
use Rattle.cdx_models.specs.Trees.{bill, Tree, text, number, fields, Trees, more, ◌⧺◌, trees, present}
use Rattle.cdx_models.specs.Versions.{label}
use Rattle.cdx_models.specs.Records.{urn_tree, references_tree, properties_tree}
use Rattle.cdx_models.specs.declared.bom.SpecVersion.{SpecVersion}
use Rattle.cdx_relations.specs.Records.{dependencies_tree, compositions_tree}
use Rattle.cdx_signature.specs.Records.{signature_tree}
use Rattle.cdx_nest.specs.Nested.{components_tree, services_tree}
use Rattle.cdx_nest.specs.Trees.{metadata_tree}
use Rattle.cdx_bom.specs.declared.bom.Bom.{Bom}

abbrev pub label_tree : SpecVersion → Tree
label_tree v = text (label v)

-- ---- the fields, in groups of at most six

abbrev pub identity : Bom → Trees
identity b = trees (label_tree b.spec_version ∷ number b.version ∷ present urn_tree b.serial_number ∷ [])

abbrev pub bill_contents : Bom → Trees
bill_contents b = trees (present components_tree b.components ∷ present services_tree b.services ∷ [])

-- with a tree that stands for the metadata
abbrev pub inventory_with : Tree → Bom → Trees
inventory_with t b = identity b ⧺ more t (bill_contents b)

-- with a tree that stands for the components
abbrev pub inventory_beside : Tree → Bom → Trees
inventory_beside t b = identity b ⧺ trees (present metadata_tree b.metadata ∷ t ∷ present services_tree b.services ∷ [])

abbrev pub inventory_groups : Bom → Trees
inventory_groups b = inventory_with (present metadata_tree b.metadata) b

abbrev pub relations : Bom → Trees
relations b = trees (present references_tree b.external_references ∷ present dependencies_tree b.dependencies ∷ present compositions_tree b.compositions ∷ present properties_tree b.properties ∷ present signature_tree b.signature ∷ [])

abbrev pub bom_tree : Bom → Tree
bom_tree b = fields bill (inventory_groups b ⧺ relations b)
