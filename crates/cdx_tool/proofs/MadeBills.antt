-- The components of a made bill, one more at the end.
use Rattle.std.proofs.Common.{◌≡◌, ℕ, zero, suc, ◌+◌, List, [], ◌∷◌, ◌++◌, refl, sym, ap, ◌∙◌, arith}
use Rattle.cdx_models.specs.Trees.{Tree, items, more, one, ◌⧺◌, each}
use Rattle.cdx_component.specs.declared.component.Component.{Component}
use Rattle.cdx_component.specs.declared.component.Components.{Components}
use Rattle.cdx_component.specs.Trees.{component_tree, components_tree, component_items}
use Rattle.cdx_component.specs.Laws.{components_tree-out}
use Rattle.cdx_request.specs.Made.{made_component, made_components}

each_more : {A : Type 0} (f : A → Tree) (xs : List A) (x : A) → each f (xs ++ x ∷ []) ≡ each f xs ⧺ one (f x)
each_more f [] x = refl
each_more f (y ∷ ys) x = ap (λ ts. more (f y) ts) (each_more f ys x)

made_more : (k i : ℕ) → made_components i (suc k) ≡ made_components i k ⧺ one (made_component (i + k))
unfolding made_components
made_more zero i = ap (λ j. one (made_component j)) (omega arith)
made_more (suc k) i = ap (λ ts. more (made_component i) ts) (made_more k (suc i) ∙ ap (λ j. made_components (suc i) k ⧺ one (made_component j)) (omega arith))

-- the components so far, and one more
pub one_made : (before after : Components) (c : Component) (n : ℕ) → component_items after ≡ component_items before ++ c ∷ [] → component_tree c ≡ made_component n → each component_tree (component_items before) ≡ made_components 0 n → each component_tree (component_items after) ≡ made_components 0 (n + 1)
one_made before after c n pushed made so_far =
    ap (each component_tree) pushed ∙ each_more component_tree (component_items before) c
    ∙ ap (λ ts. ts ⧺ one (component_tree c)) so_far
    ∙ ap (λ t. made_components 0 n ⧺ one t) (made ∙ ap made_component (omega arith))
    ∙ sym (made_more n 0)
    ∙ ap (made_components 0) (omega arith)

pub all_made : (cs : Components) (n : ℕ) → each component_tree (component_items cs) ≡ made_components 0 n → components_tree cs ≡ items (made_components 0 n)
all_made cs n made = components_tree-out cs ∙ ap items made

pub none_made : each component_tree [] ≡ made_components 0 0
unfolding made_components
none_made = refl
