-- The trees of components, pedigrees and lists of components, a field for each row of the schema and in its order.
use Rattle.std.specs.Prelude.{ℕ, List, [], ◌∷◌, Option}
use Rattle.cdx_models.specs.Trees.{component, pedigree as pedigree_record, as_is, Tree, absent, text, boolean, items, fields, Trees, ◌⧺◌, trees, present}
use Rattle.cdx_models.specs.Records.{entity_tree, hashes_tree, references_tree, properties_tree}
use Rattle.cdx_license.specs.Records.{licenses_tree}
use Rattle.cdx_signature.specs.Records.{signature_tree}
use Rattle.cdx_code.specs.Records.{commits_tree}
use Rattle.cdx_patch.specs.Records.{patches_tree}
use Rattle.cdx_component_parts.specs.Records.{mime_type_tree, cpe_tree, swid_tree, evidence_tree}
use Rattle.cdx_component.specs.declared.component.Component.{Component}
use Rattle.cdx_component.specs.declared.component.Component.TheOpen.{Component-F, Components-F, Pedigree-F}
use Rattle.cdx_component.specs.declared.component.Component.TheFolds.{fold-Component, fold-Components, fold-Pedigree}
use Rattle.cdx_component.specs.declared.component.Components.{Components, out-Components}
use Rattle.cdx_component.specs.declared.component.Pedigree.{Pedigree}

-- ---- the fields of one level, in groups of six, with what stands for the tree of each nested part

abbrev pub origin : {C L P : Type 0} → Component-F C L P → Trees
origin c = trees (text c.component_type ∷ present mime_type_tree c.mime_type ∷ present text c.bom_ref ∷ present entity_tree c.supplier ∷ present text c.author ∷ present text c.publisher ∷ [])

abbrev pub naming : {C L P : Type 0} → Component-F C L P → Trees
naming c = trees (present text c.group ∷ text c.name ∷ present text c.version ∷ present text c.description ∷ present text c.scope ∷ present hashes_tree c.hashes ∷ [])

abbrev pub marks : {C L P : Type 0} → Component-F C L P → Trees
marks c = trees (present licenses_tree c.licenses ∷ present text c.copyright ∷ present cpe_tree c.cpe ∷ present text c.purl ∷ present swid_tree c.swid ∷ present boolean c.modified ∷ [])

abbrev pub component_contents : {C L P : Type 0} → (L → Tree) → (P → Tree) → Component-F C L P → Trees
component_contents components pedigree c = trees (present pedigree c.pedigree ∷ present references_tree c.external_references ∷ present properties_tree c.properties ∷ present components c.components ∷ present evidence_tree c.evidence ∷ present signature_tree c.signature ∷ [])

abbrev pub component_fields : {C L P : Type 0} → (L → Tree) → (P → Tree) → Component-F C L P → Trees
component_fields components pedigree c = origin c ⧺ (naming c ⧺ (marks c ⧺ component_contents components pedigree c))

abbrev pub pedigree_fields : {C L P : Type 0} → (L → Tree) → Pedigree-F C L P → Trees
pedigree_fields components p = trees (present components p.ancestors ∷ present components p.descendants ∷ present components p.variants ∷ present commits_tree p.commits ∷ present patches_tree p.patches ∷ present text p.notes ∷ [])

-- ---- the trees

abbrev pub component_step : Component-F Tree Tree Tree → Tree
component_step c = fields component (component_fields as_is as_is c)

abbrev pub components_step : Components-F Tree Tree Tree → Tree
components_step cs = items (trees cs.items.items)

abbrev pub pedigree_step : Pedigree-F Tree Tree Tree → Tree
pedigree_step p = fields pedigree_record (pedigree_fields as_is p)

abbrev pub component_tree : Component → Tree
component_tree = fold-Component Tree Tree Tree component_step components_step pedigree_step

abbrev pub components_tree : Components → Tree
components_tree = fold-Components Tree Tree Tree component_step components_step pedigree_step

abbrev pub pedigree_tree : Pedigree → Tree
pedigree_tree = fold-Pedigree Tree Tree Tree component_step components_step pedigree_step

-- a component of this type and name, of this version where there is one, and nothing else
abbrev pub new_component : List ℕ → List ℕ → Option (List ℕ) → Tree
new_component type name version = fields component (trees (
    text type ∷ absent ∷ absent ∷ absent ∷ absent ∷ absent ∷
    absent ∷ text name ∷ present text version ∷ absent ∷ absent ∷ absent ∷
    absent ∷ absent ∷ absent ∷ absent ∷ absent ∷ absent ∷
    absent ∷ absent ∷ absent ∷ absent ∷ absent ∷ absent ∷ []))

-- the items of a list of components
abbrev pub component_items : Components → List Component
component_items cs = (out-Components cs).items.items
