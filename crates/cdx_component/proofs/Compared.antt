-- Components compared, by their groups of rows.
use Rattle.std.proofs.Common.{◌≡◌, false, ◌&&◌, length, refl, sym, ap, ◌∙◌}
use Rattle.cdx_models.specs.Trees.{component, fields, each, ◌⧺◌}
use Rattle.cdx_models.specs.Equal.{equal, equal_each}
use Rattle.cdx_models.proofs.Lists.{equal_each-append, equal_each-lengths}
use Rattle.cdx_component.specs.declared.component.Component.{Component}
use Rattle.cdx_component.specs.declared.component.Component.TheViews.{out-Component}
use Rattle.cdx_component.specs.declared.component.Components.{Components}
use Rattle.cdx_component.specs.Trees.{component_tree, components_tree, pedigree_tree, origin, naming, marks, component_contents, component_fields, component_items}
use Rattle.cdx_component.specs.Laws.{component_tree-out, components_tree-out}
use Rattle.cdx_models.proofs.Compared.{at_both, lists_compared}

pub component_compared : (a b : Component) → equal (component_tree a) (component_tree b)
    ≡ (equal_each (origin (out-Component a)) (origin (out-Component b)) && (equal_each (naming (out-Component a)) (naming (out-Component b)) && (equal_each (marks (out-Component a)) (marks (out-Component b)) && equal_each (component_contents components_tree pedigree_tree (out-Component a)) (component_contents components_tree pedigree_tree (out-Component b)))))
component_compared a b =
    let x = out-Component a in
    let y = out-Component b in
    let last = component_contents components_tree pedigree_tree in
    at_both _ _ (fields component (component_fields components_tree pedigree_tree x)) (fields component (component_fields components_tree pedigree_tree y)) (component_tree-out a) (component_tree-out b)
    ∙ equal_each-append (origin x) (origin y) (naming x ⧺ (marks x ⧺ last x)) (naming y ⧺ (marks y ⧺ last y)) refl
    ∙ ap (λ r. equal_each (origin x) (origin y) && r) (equal_each-append (naming x) (naming y) (marks x ⧺ last x) (marks y ⧺ last y) refl)
    ∙ ap (λ r. equal_each (origin x) (origin y) && (equal_each (naming x) (naming y) && r)) (equal_each-append (marks x) (marks y) (last x) (last y) refl)

pub components_compared : (a b : Components) → equal (components_tree a) (components_tree b) ≡ equal_each (each component_tree (component_items a)) (each component_tree (component_items b))
components_compared a b = lists_compared component_tree _ _ (component_items a) (component_items b) (components_tree-out a) (components_tree-out b)

pub components_differ : (a b : Components) → (length (component_items a) ≡ length (component_items b) → ⊥) → false ≡ equal (components_tree a) (components_tree b)
components_differ a b h = sym (components_compared a b ∙ equal_each-lengths component_tree (component_items a) (component_items b) h)
