-- A bill's text: what is printed before its components, they, and the other members.
use Rattle.std.proofs.Common.{◌≡◌, ℕ, List, [], ◌∷◌, ◌++◌, append_assoc, map, codes, true, false, Some, refl, sym, ap, ◌∙◌}
use Rattle.serde_json.specs.Data.{Data, string, array, object, item, Members, no_members, member}
use Rattle.serde_json.specs.View.{items_of}
use Rattle.serde_json.specs.Written.{compact_text, members_text}
use Rattle.serde_json.proofs.OnLiterals.{serde_json_on_literals}
use Rattle.cdx_models.specs.declared.bom.SpecVersion.{SpecVersion}
use Rattle.cdx_models.specs.Trees.{bill, component, Tree, number, absent, each, list_tree, present, is_absent}
use Rattle.cdx_models.specs.Records.{urn_tree}
use Rattle.cdx_schema.specs.Kinds.{components, Kind, a_list, a_record}
use Rattle.cdx_schema.specs.Table.{list}
use Rattle.cdx_schema.specs.Groups.{group}
use Rattle.cdx_schema.specs.Keeping.{kept, keep, items_kept}
use Rattle.cdx_schema.specs.JsonSpelling.{jspell, items_spelled}
use Rattle.cdx_json.specs.KeptRows.{rows_put}
use Rattle.cdx_json.proofs.Spelled.{list_there}
use Rattle.cdx_print.specs.Prints.{kept_value}
use Rattle.cdx_nest.specs.Nested.{Component, Components, component_tree, components_tree, component_items, components_tree-out, services_tree}
use Rattle.cdx_nest.specs.Trees.{metadata_tree}
use Rattle.cdx_bom.specs.declared.bom.Bom.{Bom}
use Rattle.cdx_bom.specs.Trees.{label_tree, inventory_beside, relations, bom_tree}
use Rattle.cdx_bom.specs.Outputs.{kept_json, compact_kept}
use Rattle.cdx_bom.proofs.Grouped.{bill_members}
use Rattle.cdx_bom.proofs.RowOrder.{stands_beside}

-- ---- the components

items_each : {A : Type 0} (f : A → Tree) (k : Kind) (w : SpecVersion) (xs : List A) → items_of (map (kept_value f k w) xs) ≡ items_spelled (items_kept w w (each f xs) k) w k
unfolding jspell kept
items_each f k w [] = refl
items_each f k w (x ∷ xs) = ap (item (kept_value f k w x)) (items_each f k w xs)

abbrev list_of : SpecVersion → Tree → Data
list_of w t = jspell (keep w t (a_list components)) w (a_list components)

list_spelled : {A : Type 0} (f : A → Tree) (w : SpecVersion) (xs : List A) → array (items_of (map (kept_value f (a_record component) w) xs)) ≡ list_of w (list_tree f xs)
unfolding jspell kept list
list_spelled f w xs = ap array (items_each f (a_record component) w xs)

abbrev values : SpecVersion → List Component → Data
values w xs = array (items_of (map (kept_value component_tree (a_record component) w) xs))

components_spelled : (w : SpecVersion) (cs : Components) → values w (component_items cs) ≡ list_of w (components_tree cs)
components_spelled w cs = list_spelled component_tree w (component_items cs) ∙ ap (list_of w) (sym (components_tree-out cs))

-- ---- the bill

abbrev with_components : Data → Members → Data
with_components c ms = object (member (codes "bomFormat") (string (codes "CycloneDX")) (member (codes "components") c ms))

abbrev others : SpecVersion → Bom → Members
others w b = rows_put (relations b) w (group 1 bill) (rows_put (inventory_beside absent b) w (group 0 bill) no_members)

components_there : (w : SpecVersion) (cs : Components) → is_absent (keep w (components_tree cs) (a_list components)) ≡ false
components_there w cs = ap (λ t. is_absent (keep w t (a_list components))) (components_tree-out cs) ∙ list_there component_tree (component_items cs) components w

bill_is : (b : Bom) (cs : Components) (w : SpecVersion) → b.components ≡ Some cs → kept_json w (bom_tree b) ≡ with_components (values w (component_items cs)) (others w b)
bill_is b cs w is =
    let there : is_absent (keep w (present components_tree b.components) (a_list components)) ≡ false = ap (λ o. is_absent (keep w (present components_tree o) (a_list components))) is ∙ components_there w cs in
    sym (bill_members b w)
    ∙ ap object (stands_beside (label_tree b.spec_version) (number b.version) (present urn_tree b.serial_number) (present metadata_tree b.metadata) (present components_tree b.components) (present services_tree b.services) (relations b) w there)
    ∙ ap (λ o. with_components (list_of w (present components_tree o)) (others w b)) is
    ∙ ap (λ c. with_components c (others w b)) (sym (components_spelled w cs))

-- ---- its text

abbrev beginning : List ℕ
beginning = codes "{\"bomFormat\":\"CycloneDX\",\"components\":"

in_pieces : (c : Data) (ms : Members) → compact_text (with_components c ms) ≡ beginning ++ (compact_text c ++ members_text true ms)
unfolding serde_json_on_literals
in_pieces c ms = refl

-- the text after one step after another
pub printed : (b : Bom) (cs : Components) (w : SpecVersion) (xs : List Component) (ms : Members) (old begun listed new : List ℕ) → b.components ≡ Some cs → xs ≡ component_items cs → ms ≡ others w b
    → begun ≡ old ++ beginning → listed ≡ begun ++ compact_text (values w xs) → new ≡ listed ++ members_text true ms → new ≡ old ++ compact_kept w (bom_tree b)
printed b cs w xs ms old begun listed new is items other e f g =
    g ∙ ap (λ s. s ++ members_text true ms) (f ∙ ap (λ s. s ++ compact_text (values w xs)) e)
    ∙ append_assoc (old ++ beginning) (compact_text (values w xs)) (members_text true ms)
    ∙ append_assoc old beginning (compact_text (values w xs) ++ members_text true ms)
    ∙ ap (λ s. old ++ s) (sym (in_pieces (values w xs) ms) ∙ ap (λ y. compact_text (with_components (values w y) ms)) items ∙ ap (λ m. compact_text (with_components (values w (component_items cs)) m)) other ∙ ap compact_text (sym (bill_is b cs w is)))
