-- Components and pedigrees as elements.
use Rattle.std.proofs.Common.{◌≡◌, ℕ, true, false, List, [], ◌∷◌, ◌++◌, codes, refl, sym, ap, ◌∙◌}
use Rattle.std.specs.List.{flat_map}
use Rattle.std.proofs.lemmas.List.{append-nil}
use Rattle.cdx_events.specs.declared.name.OwnedAttribute.{OwnedAttribute}
use Rattle.cdx_models.specs.declared.bom.SpecVersion.{SpecVersion}
use Rattle.cdx_models.specs.Trees.{component, pedigree, fields, ◌⧺◌}
use Rattle.cdx_schema.specs.Kinds.{components, a_list, a_record}
use Rattle.cdx_schema.specs.Table.{rows, list}
use Rattle.cdx_schema.specs.Trips.{is_passed_over}
use Rattle.cdx_schema.specs.Groups.{group}
use Rattle.cdx_write.specs.Listed.{item_put}
use Rattle.cdx_write.specs.Spelling.{spelled_events, inner}
use Rattle.cdx_write.specs.WillWrite.{will_write}
use Rattle.cdx_write.specs.WrittenRows.{child_written, attributes_written, rows_written, are_rows_of}
use Rattle.cdx_write.specs.Writing.{opening, start_tag, end_tag}
use Rattle.cdx_write.proofs.Lists.{items_put, item_there, list_inner, list_is}
use Rattle.cdx_write.proofs.RowWords.{child_there}
use Rattle.cdx_write.proofs.RowsLaws.{record_is, rows_in_groups, attributes_in_groups}
use Rattle.cdx_component.specs.declared.component.Component.{Component}
use Rattle.cdx_component.specs.declared.component.Component.TheOpen.{Component-F, Pedigree-F}
use Rattle.cdx_component.specs.declared.component.Component.TheViews.{out-Component, out-Pedigree}
use Rattle.cdx_component.specs.declared.component.Components.{Components}
use Rattle.cdx_component.specs.declared.component.Pedigree.{Pedigree}
use Rattle.cdx_component.specs.Trees.{component_tree, components_tree, pedigree_tree, origin, naming, marks, component_contents, component_fields, pedigree_fields, component_items}
use Rattle.cdx_component.specs.Laws.{component_tree-out, components_tree-out, pedigree_tree-out, components_there, pedigree_there}
use Rattle.cdx_component.proofs.Grouped.{component_rows}

-- ---- what there is to write

pub component_will_write : (x : Component) → will_write (component_tree x) ≡ true
component_will_write x = ap will_write (component_tree-out x)

pub components_will_write : (xs : Components) → will_write (components_tree xs) ≡ true
components_will_write xs = ap will_write (components_tree-out xs)

pub pedigree_will_write : (x : Pedigree) → will_write (pedigree_tree x) ≡ will_write (fields pedigree (pedigree_fields components_tree (out-Pedigree x)))
pedigree_will_write x = ap will_write (pedigree_tree-out x)

pub component_counts : (x : Component) → is_passed_over (component_tree x) ≡ false
component_counts x = ap is_passed_over (component_tree-out x)

-- ---- the rows, group by group

origin_in_rows : (x : Component-F Component Components Pedigree) → are_rows_of (origin x) (group 0 component) ≡ true
unfolding rows
origin_in_rows x = refl

naming_in_rows : (x : Component-F Component Components Pedigree) → are_rows_of (naming x) (group 1 component) ≡ true
unfolding rows
naming_in_rows x = refl

marks_in_rows : (x : Component-F Component Components Pedigree) → are_rows_of (marks x) (group 2 component) ≡ true
unfolding rows
marks_in_rows x = refl

pub component_in_groups : (x : Component-F Component Components Pedigree) (w : SpecVersion)
    → rows_written (origin x) w (group 0 component) ++ (rows_written (naming x) w (group 1 component) ++ (rows_written (marks x) w (group 2 component) ++ rows_written (component_contents components_tree pedigree_tree x) w (group 3 component)))
    ≡ rows_written (component_fields components_tree pedigree_tree x) w (rows component)
component_in_groups x w =
    let last = component_contents components_tree pedigree_tree x in
    sym (ap (rows_written (component_fields components_tree pedigree_tree x) w) component_rows
    ∙ rows_in_groups (origin x) (naming x ⧺ (marks x ⧺ last)) w (group 0 component) (group 1 component ++ (group 2 component ++ group 3 component)) (origin_in_rows x)
    ∙ ap (λ s. rows_written (origin x) w (group 0 component) ++ s) (rows_in_groups (naming x) (marks x ⧺ last) w (group 1 component) (group 2 component ++ group 3 component) (naming_in_rows x)
    ∙ ap (λ s. rows_written (naming x) w (group 1 component) ++ s) (rows_in_groups (marks x) last w (group 2 component) (group 3 component) (marks_in_rows x))))

-- ---- the attributes, which stand in the first group alone

naming_attributes : (x : Component-F Component Components Pedigree) (w : SpecVersion) → attributes_written (naming x) w (group 1 component) ≡ []
unfolding attributes_written rows
naming_attributes x w = refl

marks_attributes : (x : Component-F Component Components Pedigree) (w : SpecVersion) → attributes_written (marks x) w (group 2 component) ≡ []
unfolding attributes_written rows
marks_attributes x w = refl

contents_attributes : (x : Component-F Component Components Pedigree) (w : SpecVersion) → attributes_written (component_contents components_tree pedigree_tree x) w (group 3 component) ≡ []
unfolding attributes_written rows
contents_attributes x w = refl

origin_attributes : (x : Component-F Component Components Pedigree) (w : SpecVersion) → attributes_written (component_fields components_tree pedigree_tree x) w (rows component) ≡ attributes_written (origin x) w (group 0 component)
origin_attributes x w =
    let last = component_contents components_tree pedigree_tree x in
    let first = attributes_written (origin x) w (group 0 component) in
    ap (attributes_written (component_fields components_tree pedigree_tree x) w) component_rows
    ∙ attributes_in_groups (origin x) (naming x ⧺ (marks x ⧺ last)) w (group 0 component) (group 1 component ++ (group 2 component ++ group 3 component)) (origin_in_rows x)
    ∙ ap (λ s. first ++ s) (attributes_in_groups (naming x) (marks x ⧺ last) w (group 1 component) (group 2 component ++ group 3 component) (naming_in_rows x)
    ∙ ap (λ s. attributes_written (naming x) w (group 1 component) ++ s) (attributes_in_groups (marks x) last w (group 2 component) (group 3 component) (marks_in_rows x)))
    ∙ rw (naming_attributes x w, marks_attributes x w, contents_attributes x w) (append-nil first)

pedigree_attributes : (x : Pedigree-F Component Components Pedigree) (w : SpecVersion) → attributes_written (pedigree_fields components_tree x) w (rows pedigree) ≡ []
unfolding attributes_written rows
pedigree_attributes x w = refl

-- ---- a component and a pedigree under a name

pub component_made : (x : Component) (w : SpecVersion) (tag : List ℕ) (as' : List OwnedAttribute) → as' ≡ attributes_written (origin (out-Component x)) w (group 0 component)
    → opening tag as' ∷ rows_written (component_fields components_tree pedigree_tree (out-Component x)) w (rows component) ++ end_tag tag ∷ [] ≡ spelled_events (component_tree x) w tag (a_record component)
component_made x w tag as' is =
    let ts = component_fields components_tree pedigree_tree (out-Component x) in
    ap (λ s. opening tag s ∷ rows_written ts w (rows component) ++ end_tag tag ∷ []) (is ∙ sym (origin_attributes (out-Component x) w))
    ∙ sym (record_is component ts w tag (λ s. refl)) ∙ ap (λ u. spelled_events u w tag (a_record component)) (sym (component_tree-out x))

pub pedigree_made : (x : Pedigree) (w : SpecVersion) (tag : List ℕ)
    → start_tag tag ∷ rows_written (pedigree_fields components_tree (out-Pedigree x)) w (rows pedigree) ++ end_tag tag ∷ [] ≡ spelled_events (pedigree_tree x) w tag (a_record pedigree)
pedigree_made x w tag =
    let ts = pedigree_fields components_tree (out-Pedigree x) in
    ap (λ s. opening tag s ∷ rows_written ts w (rows pedigree) ++ end_tag tag ∷ []) (sym (pedigree_attributes (out-Pedigree x) w))
    ∙ sym (record_is pedigree ts w tag (λ s. refl)) ∙ ap (λ u. spelled_events u w tag (a_record pedigree)) (sym (pedigree_tree-out x))

pub component_item : (tag : List ℕ) (w : SpecVersion) (x : Component) → spelled_events (component_tree x) w tag (a_record component) ≡ item_put tag (a_record component) (component_tree x) w
component_item tag w x = item_there tag (a_record component) (component_tree x) w false refl (sym (component_counts x)) refl

pub pedigree_child : (name : List ℕ) (w : SpecVersion) (x : Pedigree) → spelled_events (pedigree_tree x) w name (a_record pedigree) ≡ child_written name (a_record pedigree) (pedigree_tree x) w
pedigree_child name w x = child_there name (a_record pedigree) (pedigree_tree x) w refl (pedigree_there x)

-- ---- a list of components

pub components_inner : (w : SpecVersion) (xs : Components) → flat_map (items_put component_tree (codes "component") (a_record component) w) (component_items xs) ≡ inner (components_tree xs) w (a_list components)
unfolding list
components_inner w xs =
    list_inner component_tree (codes "component") (a_record component) components w (component_items xs) (refl, refl) ∙ ap (λ u. inner u w (a_list components)) (sym (components_tree-out xs))

pub components_made : (tag : List ℕ) (w : SpecVersion) (xs : Components) → start_tag tag ∷ inner (components_tree xs) w (a_list components) ++ end_tag tag ∷ [] ≡ spelled_events (components_tree xs) w tag (a_list components)
components_made tag w xs =
    ap (λ u. start_tag tag ∷ inner u w (a_list components) ++ end_tag tag ∷ []) (components_tree-out xs)
    ∙ list_is component_tree tag components w (component_items xs) ∙ ap (λ u. spelled_events u w tag (a_list components)) (sym (components_tree-out xs))

pub components_child : (name : List ℕ) (w : SpecVersion) (xs : Components) → spelled_events (components_tree xs) w name (a_list components) ≡ child_written name (a_list components) (components_tree xs) w
components_child name w xs = child_there name (a_list components) (components_tree xs) w refl (components_there xs)
