-- What is there of components stays there in every version.
use Rattle.std.proofs.Common.{◌≡◌, false, ◌∙◌}
use Rattle.cdx_models.specs.declared.bom.SpecVersion.{SpecVersion}
use Rattle.cdx_models.specs.Trees.{component, pedigree, is_absent}
use Rattle.cdx_schema.specs.Kinds.{components, a_list, a_record}
use Rattle.cdx_schema.specs.Keeping.{kept}
use Rattle.cdx_json.specs.Stays.{stays_alike, record_stays, list_stays}
use Rattle.cdx_component.specs.declared.component.Component.{Component}
use Rattle.cdx_component.specs.declared.component.Components.{Components}
use Rattle.cdx_component.specs.declared.component.Pedigree.{Pedigree}
use Rattle.cdx_component.specs.Trees.{component_tree, components_tree, pedigree_tree}
use Rattle.cdx_component.specs.Laws.{component_tree-out, components_tree-out, pedigree_tree-out}

pub component_stays : (w l : SpecVersion) (x : Component) → is_absent (kept w l (component_tree x) (a_record component)) ≡ false
component_stays w l x = stays_alike w l (a_record component) _ _ (component_tree-out x) ∙ record_stays w l component _

pub components_stay : (w l : SpecVersion) (x : Components) → is_absent (kept w l (components_tree x) (a_list components)) ≡ false
components_stay w l x = stays_alike w l (a_list components) _ _ (components_tree-out x) ∙ list_stays w l components _

pub pedigree_stays : (w l : SpecVersion) (x : Pedigree) → is_absent (kept w l (pedigree_tree x) (a_record pedigree)) ≡ false
pedigree_stays w l x = stays_alike w l (a_record pedigree) _ _ (pedigree_tree-out x) ∙ record_stays w l pedigree _
