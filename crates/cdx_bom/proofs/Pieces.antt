-- A bill's document is its pieces, one after another.
use Rattle.std.proofs.Common.{◌≡◌, ℕ, true, false, List, [], ◌∷◌, ◌++◌, Option, Some, None, Result, Ok, Err, codes, refl, sym, ap, ◌∙◌, append_assoc}
use Rattle.std.specs.List.{flat_map}
use Rattle.std.proofs.lemmas.List.{append-nil}
use Rattle.cdx_events.specs.declared.event.XmlEvent.{XmlEvent}
use Rattle.cdx_events.specs.declared.event.XmlEvent.TheVariants.{StartDocument, EndDocument}
use Rattle.cdx_models.specs.declared.bom.SpecVersion.{SpecVersion}
use Rattle.cdx_models.specs.declared.errors.XmlWriteError.{XmlWriteError}
use Rattle.cdx_models.specs.declared.errors.XmlWriteError.TheVariants.{XmlElementWriteError, BomError, Memory}
use Rattle.cdx_models.specs.Trees.{bill, component, dependency, Tree, present, list_tree}
use Rattle.cdx_schema.specs.Kinds.{Lists, components, dependencies, Kind, a_list, a_record}
use Rattle.cdx_schema.specs.Table.{rows, list}
use Rattle.cdx_schema.specs.Groups.{group}
use Rattle.cdx_schema.specs.Trips.{is_passed_over}
use Rattle.cdx_write.specs.Listed.{IsListOf}
use Rattle.cdx_write.specs.Spelling.{spelled_events}
use Rattle.cdx_write.specs.Stays.{keeps_presence}
use Rattle.cdx_write.specs.Writing.{Appends, start_tag, end_tag}
use Rattle.cdx_write.specs.WrittenRows.{child_written, rows_written}
use Rattle.cdx_write.proofs.Lists.{items_put, item_there, list_inner, list_is, list_child}
use Rattle.cdx_write.proofs.RowWords.{child_none}
use Rattle.cdx_relations.specs.Records.{dependency_tree, dependencies_tree}
use Rattle.cdx_nest.specs.Nested.{component_items, component_tree, components_tree, component_tree-out, components_tree-out}
use Rattle.cdx_bom.specs.declared.bom.Bom.{Bom}
use Rattle.cdx_bom.specs.Trees.{bom_tree, inventory_groups, relations}
use Rattle.cdx_bom.specs.BillWriting.{root_start, document_in}
use Rattle.cdx_bom.specs.Pieces.{OnlyMemory, items_of, list_opened, list_closed, all_components, components_written, all_dependencies, dependencies_written, metadata_row, services_row, references_row, compositions_row, properties_row, signature_row, before_components, before_dependencies, after_dependencies, after_components}
use Rattle.cdx_bom.proofs.BillWritten.{both_groups, document_is}

-- What appends is refused for want of memory alone.
pub appends_only_memory : (old new a : List XmlEvent) (r : Result (Unit {0}) XmlWriteError) → Appends old new a r → OnlyMemory r
appends_only_memory old new a (Ok u) p = tt
appends_only_memory old new a (Err (Memory e)) p = tt
appends_only_memory old new a (Err (BomError e)) p = p
appends_only_memory old new a (Err (XmlElementWriteError n)) p = p

-- ---- a list

-- a list's items, each under the tag
abbrev each_written : {A : Type 0} → (A → Tree) → List ℕ → Kind → SpecVersion → List A → List XmlEvent
each_written see tag k w xs = flat_map (λ x. spelled_events (see x) w tag k) xs

-- An item that no list passes over is put as its element.
each_put : {A : Type 0} (see : A → Tree) (tag : List ℕ) (k : Kind) (w : SpecVersion) → keeps_presence k ≡ true → ((x : A) → false ≡ is_passed_over (see x)) → (xs : List A)
    → each_written see tag k w xs ≡ flat_map (items_put see tag k w) xs
each_put see tag k w keeps there [] = refl
each_put see tag k w keeps there (x ∷ xs) =
    ap (λ s. s ++ each_written see tag k w xs) (item_there tag k (see x) w false keeps (there x) refl)
    ∙ ap (λ s. items_put see tag k w x ++ s) (each_put see tag k w keeps there xs)

-- The row of a list is its start, each of its items, and its end.
list_row : {A L : Type 0} (see : A → Tree) (items : L → List A) (whole : L → Tree) (name tag : List ℕ) (k : Kind) (l : Lists) (w : SpecVersion)
    → ((list : L) → whole list ≡ list_tree see (items list)) → IsListOf k tag l → keeps_presence k ≡ true → ((x : A) → false ≡ is_passed_over (see x)) → (o : Option L)
    → child_written name (a_list l) (present whole o) w ≡ list_opened name o ++ (each_written see tag k w (items_of items o) ++ list_closed name o)
list_row see items whole name tag k l w out is keeps there None = child_none name (a_list l) w
list_row see items whole name tag k l w out is keeps there (Some list) =
    let xs = items list in
    ap (λ t. child_written name (a_list l) t w) (out list)
    ∙ sym (list_child see name l w xs) ∙ sym (list_is see name l w xs)
    ∙ ap (λ s. start_tag name ∷ s ++ end_tag name ∷ []) (sym (each_put see tag k w keeps there xs ∙ list_inner see tag k l w xs is))

components_row : (w : SpecVersion) (b : Bom)
    → child_written (codes "components") (a_list components) (present components_tree b.components) w ≡ list_opened (codes "components") b.components ++ (components_written w (all_components b) ++ list_closed (codes "components") b.components)
unfolding list
components_row w b = list_row component_tree component_items components_tree (codes "components") (codes "component") (a_record component) components w components_tree-out (refl, refl) refl (λ x. sym (ap is_passed_over (component_tree-out x))) b.components

dependencies_row : (w : SpecVersion) (b : Bom)
    → child_written (codes "dependencies") (a_list dependencies) (present dependencies_tree b.dependencies) w ≡ list_opened (codes "dependencies") b.dependencies ++ (dependencies_written w (all_dependencies b) ++ list_closed (codes "dependencies") b.dependencies)
unfolding list
dependencies_row w b = list_row dependency_tree (λ list. list.0) dependencies_tree (codes "dependencies") (codes "dependency") (a_record dependency) dependencies w (λ list. refl) (refl, refl) refl (λ x. refl) b.dependencies

-- ---- the document

-- the rows in which the two lists stand
inventory_is : (w : SpecVersion) (b : Bom)
    → rows_written (inventory_groups b) w (group 0 bill) ≡ metadata_row w b ++ (child_written (codes "components") (a_list components) (present components_tree b.components) w ++ (services_row w b ++ []))
unfolding rows_written rows list
inventory_is w b = refl

relations_are : (w : SpecVersion) (b : Bom)
    → rows_written (relations b) w (group 1 bill) ≡ references_row w b ++ (child_written (codes "dependencies") (a_list dependencies) (present dependencies_tree b.dependencies) w ++ (compositions_row w b ++ (properties_row w b ++ (signature_row w b ++ []))))
unfolding rows_written rows list
relations_are w b = refl

-- What was written one after the other, from nothing on.
pub four_in_a_row : {A : Type 0} (a b c d : List A) → ((([] ++ a) ++ b) ++ c) ++ d ≡ a ++ (b ++ (c ++ d))
four_in_a_row a b c d = simp append_assoc

pub six_in_a_row : {A : Type 0} (a b c d e f : List A) → ((((([] ++ a) ++ b) ++ c) ++ d) ++ e) ++ f ≡ a ++ (b ++ (c ++ (d ++ (e ++ f))))
six_in_a_row a b c d e f = simp append_assoc

-- Two lists, each opened, written and closed, among the rows m, s, r, c, p and g, and the end.
regrouped : {A : Type 0} (m o k e s r o' k' e' c p g end : List A)
    → ((m ++ ((o ++ (k ++ e)) ++ (s ++ []))) ++ (r ++ ((o' ++ (k' ++ e')) ++ (c ++ (p ++ (g ++ [])))))) ++ end
    ≡ (m ++ o) ++ (k ++ ((e ++ (s ++ (r ++ o'))) ++ (k' ++ (e' ++ (c ++ (p ++ (g ++ end)))))))
regrouped m o k e s r o' k' e' c p g end = simp (append_assoc, append-nil)

pub in_pieces : (w : SpecVersion) (b : Bom) → document_in w (bom_tree b) ≡ before_components w b ++ (components_written w (all_components b) ++ after_components w b)
unfolding before_components before_dependencies after_dependencies
in_pieces w b =
    let last = end_tag (codes "bom") ∷ EndDocument ∷ [] in
    let front = inventory_is w b ∙ ap (λ s. metadata_row w b ++ (s ++ (services_row w b ++ []))) (components_row w b) in
    let rest = compositions_row w b ++ (properties_row w b ++ (signature_row w b ++ [])) in
    let back = relations_are w b ∙ ap (λ s. references_row w b ++ (s ++ rest)) (dependencies_row w b) in
    let opened = list_opened (codes "components") b.components in
    let closed = list_closed (codes "components") b.components in
    let opened' = list_opened (codes "dependencies") b.dependencies in
    let closed' = list_closed (codes "dependencies") b.dependencies in
    let written = metadata_row w b ++ ((opened ++ (components_written w (all_components b) ++ closed)) ++ (services_row w b ++ [])) in
    sym (document_is b w)
    ∙ ap (λ (s : List XmlEvent). StartDocument ∷ (root_start (bom_tree b) w ∷ (s ++ last))) (sym (both_groups b w) ∙ ap (λ s. s ++ rows_written (relations b) w (group 1 bill)) front ∙ ap (λ s. written ++ s) back)
    ∙ ap (λ (s : List XmlEvent). StartDocument ∷ (root_start (bom_tree b) w ∷ s)) (regrouped (metadata_row w b) opened (components_written w (all_components b)) closed (services_row w b) (references_row w b) opened' (dependencies_written w (all_dependencies b)) closed' (compositions_row w b) (properties_row w b) (signature_row w b) last)
