-- The trees of components, pedigrees and lists of components, one level at a time.
use Rattle.std.proofs.Common.{◌≡◌, false, Option, Some, None, refl, ap, ◌∙◌}
use Rattle.cdx_models.specs.Trees.{component, pedigree, Tree, fields, present, list_tree, is_absent}
use Rattle.cdx_component.specs.declared.component.Component.{Component}
use Rattle.cdx_component.specs.declared.component.Component.TheOpen.{Component-F, Pedigree-F}
use Rattle.cdx_component.specs.declared.component.Component.TheShapes.{former-Component-pedigree, former-Component-components}
use Rattle.cdx_component.specs.declared.component.Component.TheViews.{out-Component, out-Pedigree, roll-Component, roll-Pedigree}
use Rattle.cdx_component.specs.declared.component.Component.TheFolds.{fold-roll-Component, fold-roll-Pedigree, fold_out-Component, fold_out-Components, fold_out-Pedigree}
use Rattle.cdx_component.specs.declared.component.Components.{Components}
use Rattle.cdx_component.specs.declared.component.Pedigree.{Pedigree}
use Rattle.cdx_models.specs.Trees.{as_is}
use Rattle.cdx_component.specs.Trees.{component_step, components_step, pedigree_step, component_tree, components_tree, pedigree_tree, component_items, component_fields, pedigree_fields}

mapped-pedigree : (h : Pedigree → Tree) (o : Option Pedigree) → present as_is (former-Component-pedigree.map Pedigree Tree h o) ≡ present h o
mapped-pedigree h None = refl
mapped-pedigree h (Some x) = refl

mapped-components : (h : Components → Tree) (o : Option Components) → present as_is (former-Component-components.map Components Tree h o) ≡ present h o
mapped-components h None = refl
mapped-components h (Some x) = refl

pub component_tree-roll : (x : Component-F Component Components Pedigree) → component_tree (roll-Component x) ≡ fields component (component_fields components_tree pedigree_tree x)
component_tree-roll x =
    fold-roll-Component Tree Tree Tree component_step components_step pedigree_step x ∙ simp (mapped-pedigree pedigree_tree x.pedigree, mapped-components components_tree x.components)

pub component_tree-out : (c : Component) → component_tree c ≡ fields component (component_fields components_tree pedigree_tree (out-Component c))
component_tree-out c =
    fold_out-Component Tree Tree Tree component_step components_step pedigree_step c ∙ simp (mapped-pedigree pedigree_tree (out-Component c).pedigree, mapped-components components_tree (out-Component c).components)

pub components_tree-out : (cs : Components) → components_tree cs ≡ list_tree component_tree (component_items cs)
components_tree-out cs = fold_out-Components Tree Tree Tree component_step components_step pedigree_step cs

pub pedigree_tree-roll : (x : Pedigree-F Component Components Pedigree) → pedigree_tree (roll-Pedigree x) ≡ fields pedigree (pedigree_fields components_tree x)
pedigree_tree-roll x =
    fold-roll-Pedigree Tree Tree Tree component_step components_step pedigree_step x ∙ simp (mapped-components components_tree x.ancestors, mapped-components components_tree x.descendants, mapped-components components_tree x.variants)

pub pedigree_tree-out : (p : Pedigree) → pedigree_tree p ≡ fields pedigree (pedigree_fields components_tree (out-Pedigree p))
pedigree_tree-out p =
    fold_out-Pedigree Tree Tree Tree component_step components_step pedigree_step p ∙ simp (mapped-components components_tree (out-Pedigree p).ancestors, mapped-components components_tree (out-Pedigree p).descendants, mapped-components components_tree (out-Pedigree p).variants)

-- ---- none of these trees is absent

pub component_there : (x : Component) → is_absent (component_tree x) ≡ false
component_there x = ap is_absent (component_tree-out x)

pub components_there : (x : Components) → is_absent (components_tree x) ≡ false
components_there x = ap is_absent (components_tree-out x)

pub pedigree_there : (x : Pedigree) → is_absent (pedigree_tree x) ≡ false
pedigree_there x = ap is_absent (pedigree_tree-out x)
