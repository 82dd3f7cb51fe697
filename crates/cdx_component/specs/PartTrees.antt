-- The trees of the fields that a reader or a copy makes together.
use Rattle.std.specs.Prelude.{[], ◌∷◌}
use Rattle.cdx_models.specs.Trees.{text, boolean, Trees, trees, present}
use Rattle.cdx_models.specs.Records.{entity_tree, hashes_tree, references_tree, properties_tree}
use Rattle.cdx_license.specs.Records.{licenses_tree}
use Rattle.cdx_signature.specs.Records.{signature_tree}
use Rattle.cdx_component_parts.specs.Records.{mime_type_tree, cpe_tree, swid_tree, evidence_tree}
use Rattle.cdx_component.specs.Trees.{components_tree, pedigree_tree}
use Rattle.cdx_component.specs.declared.component.parts.Origin.{Origin}
use Rattle.cdx_component.specs.declared.component.parts.Naming.{Naming}
use Rattle.cdx_component.specs.declared.component.parts.Marks.{Marks}
use Rattle.cdx_component.specs.declared.component.parts.Contents.{Contents}

abbrev pub origin_trees : Origin → Trees
origin_trees p = trees (text p.component_type ∷ present mime_type_tree p.mime_type ∷ present text p.bom_ref ∷ present entity_tree p.supplier ∷ present text p.author ∷ present text p.publisher ∷ [])

abbrev pub naming_trees : Naming → Trees
naming_trees p = trees (present text p.group ∷ text p.name ∷ present text p.version ∷ present text p.description ∷ present text p.scope ∷ present hashes_tree p.hashes ∷ [])

abbrev pub marks_trees : Marks → Trees
marks_trees p = trees (present licenses_tree p.licenses ∷ present text p.copyright ∷ present cpe_tree p.cpe ∷ present text p.purl ∷ present swid_tree p.swid ∷ present boolean p.modified ∷ [])

abbrev pub contents_trees : Contents → Trees
contents_trees p = trees (present pedigree_tree p.pedigree ∷ present references_tree p.external_references ∷ present properties_tree p.properties ∷ present components_tree p.components ∷ present evidence_tree p.evidence ∷ present signature_tree p.signature ∷ [])
