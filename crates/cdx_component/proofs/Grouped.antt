-- Components, read, kept and written group by group.
use Rattle.std.proofs.Common.{◌≡◌, ◌++◌, length, Vec, Global, refl, sym, ap, ◌∙◌}
use Rattle.serde_json.specs.Data.{no_members}
use Rattle.cdx_models.specs.declared.bom.SpecVersion.{SpecVersion}
use Rattle.cdx_models.specs.Trees.{component, pedigree, Tree, fields, Trees, ◌⧺◌}
use Rattle.cdx_models.proofs.Lists.{count}
use Rattle.cdx_schema.specs.Kinds.{a_record}
use Rattle.cdx_schema.specs.Table.{rows}
use Rattle.cdx_schema.specs.Depth.{Depth}
use Rattle.cdx_schema.specs.Keeping.{kept, keep}
use Rattle.cdx_schema.specs.JsonReading.{Object}
use Rattle.cdx_schema.specs.JsonSpelling.{jspell}
use Rattle.cdx_json.specs.ByRows.{rows_made, own_made, by_rows, as_record}
use Rattle.cdx_json.specs.KeptRows.{rows_held, rows_put}
use Rattle.cdx_json.specs.Spellings.{spelling_data, spelling_members}
use Rattle.cdx_json.specs.declared.spelling.Spelling.{Object as object_of}
use Rattle.cdx_json.proofs.ByRowsLaws.{rows_split, rows_then, then_same}
use Rattle.cdx_json.proofs.KeptRowsLaws.{record_held}
use Rattle.cdx_json.proofs.Setting.{Entry}
use Rattle.cdx_component.specs.declared.component.Component.{Component}
use Rattle.cdx_component.specs.declared.component.Component.TheOpen.{Component-F, Pedigree-F}
use Rattle.cdx_component.specs.declared.component.Component.TheViews.{out-Component, out-Pedigree, roll-Pedigree}
use Rattle.cdx_component.specs.declared.component.Components.{Components}
use Rattle.cdx_component.specs.declared.component.Pedigree.{Pedigree}
use Rattle.cdx_component.specs.Trees.{component_tree, components_tree, pedigree_tree, origin, naming, marks, component_contents, component_fields, pedigree_fields}
use Rattle.cdx_component.specs.Laws.{component_tree-out, pedigree_tree-out, pedigree_tree-roll}
use Rattle.cdx_schema.specs.Groups.{group}
use Rattle.cdx_json.specs.Groups.{group_read}
use Rattle.cdx_component.specs.Groups.{component_by_groups}
use Rattle.cdx_json.proofs.Groups.{held_four, four_equal, put_split, tree_spelled}

pub component_rows : rows component ≡ group 0 component ++ (group 1 component ++ (group 2 component ++ group 3 component))
unfolding rows
component_rows = refl

pub component_in_groups : (o : Object) (v : SpecVersion) (d : Depth) → by_rows component o v d ≡ component_by_groups o v d
unfolding component_by_groups
component_in_groups o v d =
    let own = own_made o v d in
    ap (λ rs. rows_made o own rs v d (as_record component)) component_rows
    ∙ rows_split o own (group 0 component) (group 1 component ++ (group 2 component ++ group 3 component)) v d (as_record component)
    ∙ then_same (group_read 0 component o v d) _ _ (λ a. rows_split o own (group 1 component) (group 2 component ++ group 3 component) v d (λ us. as_record component (a ⧺ us))
    ∙ then_same (group_read 1 component o v d) _ _ (λ b. rows_split o own (group 2 component) (group 3 component) v d (λ us. as_record component (a ⧺ (b ⧺ us)))
    ∙ then_same (group_read 2 component o v d) _ _ (λ c. rows_then o own (group 3 component) v d (λ us. as_record component (a ⧺ (b ⧺ (c ⧺ us)))))))

origin_counts : (x : Component-F Component Components Pedigree) → count (origin x) ≡ length (group 0 component)
unfolding rows
origin_counts x = refl

naming_counts : (x : Component-F Component Components Pedigree) → count (naming x) ≡ length (group 1 component)
unfolding rows
naming_counts x = refl

marks_count : (x : Component-F Component Components Pedigree) → count (marks x) ≡ length (group 2 component)
unfolding rows
marks_count x = refl

pub component_kept : (w l : SpecVersion) (t : Tree) (c : Component) (a b d e : Trees) → t ≡ fields component (a ⧺ (b ⧺ (d ⧺ e)))
    → a ≡ rows_held w l (origin (out-Component c)) (group 0 component) → b ≡ rows_held w l (naming (out-Component c)) (group 1 component)
    → d ≡ rows_held w l (marks (out-Component c)) (group 2 component) → e ≡ rows_held w l (component_contents components_tree pedigree_tree (out-Component c)) (group 3 component)
    → t ≡ kept w l (component_tree c) (a_record component)
component_kept w l t c a b d e is p q r s =
    let x = out-Component c in
    is ∙ ap (fields component) (four_equal a b d e _ _ _ _ p q r s ∙ sym (held_four w l component (origin x) (naming x) (marks x) (component_contents components_tree pedigree_tree x) (group 0 component) (group 1 component) (group 2 component) (group 3 component) component_rows (origin_counts x) (naming_counts x) (marks_count x)))
    ∙ record_held w l component (fields component (component_fields components_tree pedigree_tree x)) refl ∙ ap (λ u. kept w l u (a_record component)) (sym (component_tree-out c))

pub pedigree_kept : (w l : SpecVersion) (x : Pedigree-F Component Components Pedigree) (p : Pedigree) → pedigree_fields components_tree x ≡ rows_held w l (pedigree_fields components_tree (out-Pedigree p)) (rows pedigree)
    → pedigree_tree (roll-Pedigree x) ≡ kept w l (pedigree_tree p) (a_record pedigree)
pedigree_kept w l x p e =
    pedigree_tree-roll x ∙ ap (fields pedigree) e ∙ record_held w l pedigree (fields pedigree (pedigree_fields components_tree (out-Pedigree p))) refl ∙ ap (λ u. kept w l u (a_record pedigree)) (sym (pedigree_tree-out p))

pub component_spelled : (m : Vec Entry Global) (c : Component) (w : SpecVersion)
    → spelling_members m.items ≡ rows_put (component_contents components_tree pedigree_tree (out-Component c)) w (group 3 component) (rows_put (marks (out-Component c)) w (group 2 component) (rows_put (naming (out-Component c)) w (group 1 component) (rows_put (origin (out-Component c)) w (group 0 component) no_members)))
    → spelling_data (object_of m) ≡ jspell (keep w (component_tree c) (a_record component)) w (a_record component)
unfolding rows
component_spelled m c w e =
    let x = out-Component c in
    let last = component_contents components_tree pedigree_tree x in
    tree_spelled m component w (component_tree c) (component_fields components_tree pedigree_tree x) (component_tree-out c) refl
    (e ∙ sym (put_split w (origin x) (naming x ⧺ (marks x ⧺ last)) (group 0 component) (group 1 component ++ (group 2 component ++ group 3 component)) no_members refl
    ∙ put_split w (naming x) (marks x ⧺ last) (group 1 component) (group 2 component ++ group 3 component) _ refl
    ∙ put_split w (marks x) last (group 2 component) (group 3 component) _ refl))

pub pedigree_spelled : (m : Vec Entry Global) (p : Pedigree) (w : SpecVersion)
    → spelling_members m.items ≡ rows_put (pedigree_fields components_tree (out-Pedigree p)) w (rows pedigree) no_members
    → spelling_data (object_of m) ≡ jspell (keep w (pedigree_tree p) (a_record pedigree)) w (a_record pedigree)
pedigree_spelled m p w e = tree_spelled m pedigree w (pedigree_tree p) (pedigree_fields components_tree (out-Pedigree p)) (pedigree_tree-out p) refl e
