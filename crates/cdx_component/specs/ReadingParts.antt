-- The fields of records while their children are read, and what is missing of them at the end.
use Rattle.std.specs.Prelude.{[], ◌∷◌, Option, Some, Result, Ok}
use Rattle.cdx_models.specs.declared.bom.SpecVersion.{SpecVersion}
use Rattle.cdx_models.specs.declared.bom.SpecVersion.TheVariants.{V1_3, V1_4, V1_5}
use Rattle.cdx_models.specs.declared.errors.XmlReadError.{XmlReadError}
use Rattle.cdx_models.specs.Trees.{text, Trees, ◌⧺◌, trees, present}
use Rattle.cdx_models.specs.Records.{hashes_tree}
use Rattle.cdx_schema.specs.Results.{◌>>=◌}
use Rattle.cdx_leaf.specs.Attribute.{or_fault}
use Rattle.cdx_code.specs.Records.{commits_tree}
use Rattle.cdx_patch.specs.Records.{patches_tree}
use Rattle.cdx_component.specs.Trees.{components_tree}
use Rattle.cdx_component.specs.PartTrees.{origin_trees, marks_trees, contents_trees}
use Rattle.cdx_component.specs.declared.xml.reading.parts.NamingPart.{NamingPart}
use Rattle.cdx_component.specs.declared.xml.reading.parts.ComponentPart.{ComponentPart}
use Rattle.cdx_component.specs.declared.xml.reading.parts.PedigreePart.{PedigreePart}

abbrev pub naming_part : NamingPart → Trees
naming_part p = trees (present text p.group ∷ present text p.name ∷ present text p.version ∷ present text p.description ∷ present text p.scope ∷ present hashes_tree p.hashes ∷ [])

abbrev pub component_part : ComponentPart → Trees
component_part p = origin_trees p.origin ⧺ (naming_part p.naming ⧺ (marks_trees p.marks ⧺ contents_trees p.contents))

abbrev pub pedigree_part : PedigreePart → Trees
pedigree_part p = trees (present components_tree p.ancestors ∷ present components_tree p.descendants ∷ present components_tree p.variants ∷ present commits_tree p.commits ∷ present patches_tree p.patches ∷ present text p.notes ∷ [])

-- a child that has to be there in 1.3 alone
abbrev pub in_first : {T : Type 0} → SpecVersion → Option T → XmlReadError → Result (Option T) XmlReadError
in_first V1_3 o fault = or_fault o fault >>= λ t. Ok (Some t)
in_first V1_4 o fault = Ok o
in_first V1_5 o fault = Ok o
