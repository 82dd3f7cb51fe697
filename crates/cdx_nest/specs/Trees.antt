-- The trees of tools and metadata, a field for each row of the schema and in its order.
use Rattle.std.specs.Prelude.{◌≡◌, refl, false, [], ◌∷◌, Option}
use Rattle.cdx_models.specs.Trees.{tools_object, metadata, Tree, text, fields, Trees, ◌⧺◌, trees, present, list_tree, is_absent}
use Rattle.cdx_models.specs.Records.{contact_tree, entity_tree, properties_tree, tool_tree}
use Rattle.cdx_license.specs.Records.{licenses_tree}
use Rattle.cdx_component.specs.Trees.{component_tree, components_tree}
use Rattle.cdx_service.specs.Trees.{services_tree}
use Rattle.cdx_component.specs.declared.component.Components.{Components}
use Rattle.cdx_service.specs.declared.service.Services.{Services}
use Rattle.cdx_nest.specs.declared.tools.Tools.{Tools}
use Rattle.cdx_nest.specs.declared.tools.Tools.TheVariants as variant
use Rattle.cdx_nest.specs.declared.metadata.Metadata.{Metadata}

abbrev pub object_tree : Option Services → Option Components → Tree
object_tree ss cs = fields tools_object (trees (present services_tree ss ∷ present components_tree cs ∷ []))

abbrev pub tools_tree : Tools → Tree
tools_tree (variant.List ts) = list_tree tool_tree ts
tools_tree (variant.Object ss cs) = object_tree ss cs

-- neither variant's tree is absent
pub tools_there : (x : Tools) → is_absent (tools_tree x) ≡ false
tools_there (variant.List ts) = refl
tools_there (variant.Object ss cs) = refl

abbrev pub makers : Metadata → Trees
makers m = trees (present text m.timestamp ∷ present tools_tree m.tools ∷ present (list_tree contact_tree) m.authors ∷ present component_tree m.component ∷ present entity_tree m.manufacture ∷ present entity_tree m.supplier ∷ [])

abbrev pub terms : Metadata → Trees
terms m = trees (present licenses_tree m.licenses ∷ present properties_tree m.properties ∷ [])

abbrev pub metadata_tree : Metadata → Tree
metadata_tree m = fields metadata (makers m ⧺ terms m)
