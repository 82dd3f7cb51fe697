-- The trees of dependencies and compositions, a field for each row of the schema and in its order.
use Rattle.std.specs.Prelude.{[], ◌∷◌}
use Rattle.cdx_models.specs.Trees.{dependency, composition, Tree, text, fields, trees, present, list_tree}
use Rattle.cdx_signature.specs.Records.{signature_tree}
use Rattle.cdx_relations.specs.declared.dependency.Dependency.{Dependency}
use Rattle.cdx_relations.specs.declared.dependency.Dependencies.{Dependencies}
use Rattle.cdx_relations.specs.declared.composition.BomReference.{BomReference}
use Rattle.cdx_relations.specs.declared.composition.Composition.{Composition}
use Rattle.cdx_relations.specs.declared.composition.Compositions.{Compositions}

abbrev pub dependency_tree : Dependency → Tree
dependency_tree x = fields dependency (trees (text x.dependency_ref ∷ list_tree text x.depends_on ∷ []))

abbrev pub dependencies_tree : Dependencies → Tree
dependencies_tree xs = list_tree dependency_tree xs.0

abbrev pub bom_reference_tree : BomReference → Tree
bom_reference_tree x = text x.0

abbrev pub composition_tree : Composition → Tree
composition_tree x = fields composition (trees (present text x.bom_ref ∷ text x.aggregate ∷ present (list_tree bom_reference_tree) x.assemblies ∷ present (list_tree bom_reference_tree) x.dependencies ∷ present (list_tree bom_reference_tree) x.vulnerabilities ∷ present signature_tree x.signature ∷ []))

abbrev pub compositions_tree : Compositions → Tree
compositions_tree xs = list_tree composition_tree xs.0
