-- Copies of components, by their groups of rows.
use Rattle.std.proofs.Common.{◌≡◌, sym, ◌∙◌}
use Rattle.cdx_models.specs.Trees.{component, Tree, fields, Trees, ◌⧺◌}
use Rattle.cdx_component.specs.declared.component.Component.{Component}
use Rattle.cdx_component.specs.declared.component.Component.TheViews.{out-Component}
use Rattle.cdx_component.specs.Trees.{component_tree, components_tree, pedigree_tree, origin, naming, marks, component_contents}
use Rattle.cdx_component.specs.Laws.{component_tree-out}

pub component_copied : (t : Tree) (c : Component) (a b d e : Trees) → t ≡ fields component (a ⧺ (b ⧺ (d ⧺ e)))
    → a ≡ origin (out-Component c) → b ≡ naming (out-Component c) → d ≡ marks (out-Component c) → e ≡ component_contents components_tree pedigree_tree (out-Component c) → t ≡ component_tree c
component_copied t c a b d e is p q r s = is ∙ rw (p, q, r, s) (sym (component_tree-out c))
