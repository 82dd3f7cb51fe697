-- Lists, as a loop writes them.
use Rattle.std.proofs.Common.{◌≡◌, ℕ, Bool, true, false, if◌then◌else◌, List, [], ◌∷◌, ◌++◌, refl, sym, ap, ◌∙◌}
use Rattle.std.specs.List.{flat_map}
use Rattle.std.proofs.lemmas.List.{append-nil}
use Rattle.cdx_events.specs.declared.event.XmlEvent.{XmlEvent}
use Rattle.cdx_events.specs.Nodes.{no_nodes, events_of, events_of_all}
use Rattle.cdx_models.specs.declared.bom.SpecVersion.{SpecVersion}
use Rattle.cdx_models.specs.Trees.{Tree, each, list_tree}
use Rattle.cdx_schema.specs.Kinds.{Lists, Kind, a_list}
use Rattle.cdx_schema.specs.Table.{list}
use Rattle.cdx_schema.specs.Keeping.{kept, keep, items_kept}
use Rattle.cdx_schema.specs.Trips.{is_passed_over}
use Rattle.cdx_schema.specs.XmlSpelling.{each_under, nodes_of, items_nodes, lone, spelled}
use Rattle.cdx_write.specs.Listed.{IsListOf, item_put}
use Rattle.cdx_write.specs.Spelling.{spelled_events, inner}
use Rattle.cdx_write.specs.Stays.{keeps_presence, passed_kept}
use Rattle.cdx_write.specs.WrittenRows.{child_written}
use Rattle.cdx_write.specs.Writing.{start_tag, end_tag}
use Rattle.cdx_write.proofs.RowsLaws.{events_append}
use Rattle.cdx_write.proofs.RowWords.{child_there}

-- ---- one item

pub item_passed : (tag : List ℕ) (k : Kind) (t : Tree) (w : SpecVersion) (b : Bool) → keeps_presence k ≡ true → b ≡ is_passed_over t → b ≡ true → item_put tag k t w ≡ []
unfolding item_put
item_passed tag k t w b keeps is e = ap (λ d. if d then [] else spelled_events t w tag k) (passed_kept k keeps w w t ∙ sym is ∙ e)

pub item_there : (tag : List ℕ) (k : Kind) (t : Tree) (w : SpecVersion) (b : Bool) → keeps_presence k ≡ true → b ≡ is_passed_over t → b ≡ false → spelled_events t w tag k ≡ item_put tag k t w
unfolding item_put
item_there tag k t w b keeps is e = ap (λ d. if d then [] else spelled_events t w tag k) (sym (passed_kept k keeps w w t ∙ sym is ∙ e))

-- ---- all items

abbrev pub items_put : {A : Type 0} → (A → Tree) → List ℕ → Kind → SpecVersion → A → List XmlEvent
items_put see tag k w x = item_put tag k (see x) w

item_events : (b : Bool) (u : Tree) (w : SpecVersion) (tag : List ℕ) (k : Kind) → events_of_all (if b then no_nodes else lone (spelled u w tag k)) ≡ (if b then [] else events_of (spelled u w tag k))
item_events true u w tag k = refl
item_events false u w tag k = append-nil (events_of (spelled u w tag k))

items_are : {A : Type 0} (see : A → Tree) (tag : List ℕ) (k : Kind) (w : SpecVersion) (xs : List A) → flat_map (items_put see tag k w) xs ≡ events_of_all (items_nodes (items_kept w w (each see xs) k) w (each_under tag) k)
unfolding nodes_of kept item_put spelled_events
items_are see tag k w [] = refl
items_are see tag k w (x ∷ xs) =
    ap (λ s. s ++ flat_map (items_put see tag k w) xs) (sym (item_events (is_passed_over (keep w (see x) k)) (keep w (see x) k) w tag k))
    ∙ ap (λ s. events_of_all (if is_passed_over (keep w (see x) k) then no_nodes else lone (spelled (keep w (see x) k) w tag k)) ++ s) (items_are see tag k w xs)
    ∙ sym (events_append _ _)

pub list_inner : {A : Type 0} (see : A → Tree) (tag : List ℕ) (k : Kind) (l : Lists) (w : SpecVersion) (xs : List A) → IsListOf k tag l → flat_map (items_put see tag k w) xs ≡ inner (list_tree see xs) w (a_list l)
unfolding inner nodes_of kept
list_inner see tag k l w xs is =
    items_are see tag k w xs
    ∙ ap (λ q. events_of_all (items_nodes (items_kept w w (each see xs) q) w (each_under tag) q)) (sym is.0)
    ∙ ap (λ s. events_of_all (items_nodes (items_kept w w (each see xs) (list l).kind) w (each_under s) (list l).kind)) (sym is.1)

-- a list under its tag
pub list_is : {A : Type 0} (see : A → Tree) (tag : List ℕ) (l : Lists) (w : SpecVersion) (xs : List A) → start_tag tag ∷ inner (list_tree see xs) w (a_list l) ++ end_tag tag ∷ [] ≡ spelled_events (list_tree see xs) w tag (a_list l)
unfolding spelled_events inner nodes_of kept
list_is see tag l w xs = refl

pub list_child : {A : Type 0} (see : A → Tree) (name : List ℕ) (l : Lists) (w : SpecVersion) (xs : List A) → spelled_events (list_tree see xs) w name (a_list l) ≡ child_written name (a_list l) (list_tree see xs) w
list_child see name l w xs = child_there name (a_list l) (list_tree see xs) w refl refl
