-- The fields of dependencies and compositions while they are read.
use Rattle.std.specs.Prelude.{[], ◌∷◌}
use Rattle.cdx_models.specs.Trees.{text, trees, Trees, present, list_tree}
use Rattle.cdx_relations.specs.Records.{bom_reference_tree}
use Rattle.cdx_signature.specs.Records.{signature_tree}
use Rattle.cdx_relations.specs.declared.dependency.Dependency.{Dependency}
use Rattle.cdx_relations.specs.declared.parts.CompositionPart.{CompositionPart}
use Rattle.cdx_leaf.specs.Trees.{collected}

abbrev pub dependency_part : Dependency → Trees
dependency_part x = trees (text x.dependency_ref ∷ collected text x.depends_on ∷ [])

abbrev pub composition_part : CompositionPart → Trees
composition_part x = trees (present text x.bom_ref ∷ present text x.aggregate ∷ present (list_tree bom_reference_tree) x.assemblies ∷ present (list_tree bom_reference_tree) x.dependencies ∷ present (list_tree bom_reference_tree) x.vulnerabilities ∷ present signature_tree x.signature ∷ [])
