-- A service's data in XML: where the version knows flows and there is one, each entry is a `dataflow`, else each is a
-- `classification`.
use Rattle.std.proofs.Common.{◌≡◌, ℕ, Bool, true, false, ◌&&◌, ◌||◌, is_some, if◌then◌else◌, List, [], ◌∷◌, ◌++◌, Option, Some, None, refl, sym, ap, subst, ◌∙◌}
use Rattle.std.specs.List.{list_any}
use Rattle.cdx_events.specs.Nodes.{Nodes, no_nodes, events_of_all}
use Rattle.cdx_models.specs.declared.bom.SpecVersion.{SpecVersion}
use Rattle.cdx_models.specs.declared.bom.SpecVersion.TheVariants.{V1_3, V1_4, V1_5}
use Rattle.cdx_models.specs.Entries.{entry_of}
use Rattle.cdx_models.specs.Trees.{classification, service_data, Tree, absent, text, number, boolean, items, fields, Trees, none, more, trees, each, list_tree, present}
use Rattle.cdx_models.specs.Versions.{knows}
use Rattle.cdx_schema.specs.Keeping.{kept, keep, items_kept}
use Rattle.cdx_schema.specs.Kinds.{a_list, a_record, a_data, an_entry, classifications, flows}
use Rattle.cdx_schema.specs.Nodes.{◌⊕◌}
use Rattle.cdx_schema.specs.Table.{rows, list}
use Rattle.cdx_schema.specs.Trips.{is_passed_over}
use Rattle.cdx_schema.specs.XmlSpelling.{lone, each_under, as_flows, item_node, any_flow, nodes_of, items_nodes}
use Rattle.cdx_write.specs.Spelling.{inner, spelled_events}
use Rattle.cdx_write.specs.Writing.{start_tag, end_tag}
use Rattle.cdx_service_data.specs.Records.{classification_tree, service_data_tree, service_classification, service_entry, data_tree}
use Rattle.cdx_service_data.specs.declared.service.Data.{Data}
use Rattle.cdx_service_data.specs.declared.service.Data.TheVariants as variant
use Rattle.cdx_service_data.specs.declared.service.DataClassification.{DataClassification}
use Rattle.cdx_service_data.specs.declared.service.ServiceData.{ServiceData}
use Rattle.cdx_service_data.proofs.Entries.{held}
use Rattle.cdx_service_data.proofs.DataEntries.{late, kept_alike, classification_kept, flow_dropped}

-- ---- classifications

node_alike : (tag : List ℕ) (t : Tree) (w : SpecVersion) → item_node (each_under tag) t w (a_record classification) (nodes_of t w (a_record classification)) ≡ item_node (each_under tag) t w an_entry (nodes_of t w an_entry)
unfolding nodes_of
node_alike tag absent w = refl
node_alike tag (text s) w = refl
node_alike tag (number n) w = refl
node_alike tag (boolean b) w = refl
node_alike tag (items ts) w = refl
node_alike tag (fields n ts) w = refl

nodes_alike : (tag : List ℕ) (ts : Trees) (w : SpecVersion) → items_nodes ts w (each_under tag) (a_record classification) ≡ items_nodes ts w (each_under tag) an_entry
unfolding nodes_of
nodes_alike tag none w = refl
nodes_alike tag (more t ts) w =
    ap (λ x. (if is_passed_over t then no_nodes else lone x) ⊕ items_nodes ts w (each_under tag) (a_record classification)) (node_alike tag t w)
    ∙ ap (λ xs. (if is_passed_over t then no_nodes else lone (item_node (each_under tag) t w an_entry (nodes_of t w an_entry))) ⊕ xs) (nodes_alike tag ts w)

no_flow : (w : SpecVersion) (xs : List DataClassification) → any_flow (items_kept w w (each classification_tree xs) (a_record classification)) ≡ false
unfolding kept
no_flow w [] = refl
no_flow V1_3 (x ∷ xs) = no_flow V1_3 xs
no_flow V1_4 (x ∷ xs) = no_flow V1_4 xs
no_flow V1_5 (x ∷ xs) = no_flow V1_5 xs

-- entries that are kept as these classifications are
entries_inner : (w : SpecVersion) (xs : List DataClassification) (ts : Trees) → items_kept w w (each classification_tree xs) (a_record classification) ≡ items_kept w w ts an_entry
    → inner (list_tree classification_tree xs) w (a_list classifications) ≡ inner (items ts) w a_data
unfolding inner kept nodes_of list
entries_inner w xs ts e =
    let kept_xs = items_kept w w (each classification_tree xs) (a_record classification) in
    ap events_of_all (nodes_alike (list classifications).name kept_xs w)
    ∙ ap (λ b. events_of_all (items_nodes kept_xs w (if b then as_flows else each_under (list classifications).name) an_entry)) (sym (no_flow w xs))
    ∙ ap (λ us. events_of_all (items_nodes us w (if any_flow us then as_flows else each_under (list classifications).name) an_entry)) e

pub classified_inner : (w : SpecVersion) (xs : List DataClassification) → inner (list_tree classification_tree xs) w (a_list classifications) ≡ inner (list_tree classification_tree xs) w a_data
classified_inner w xs = entries_inner w xs (each classification_tree xs) (kept_alike classification_tree classification_tree (a_record classification) an_entry w w xs (λ x. classification_kept w w _))

-- ---- flows

abbrev pub is_named : ServiceData → Bool
is_named x = is_some x.name || is_some x.description

-- a service data with these parts
abbrev flow_tree : Option (List ℕ) → Option (List ℕ) → DataClassification → Tree
flow_tree name description c = fields service_data (trees (present text name ∷ present text description ∷ classification_tree c ∷ []))

none_named : (w : SpecVersion) (xs : List ServiceData) → list_any is_named xs ≡ false → items_kept V1_5 w (each service_classification xs) (a_record classification) ≡ items_kept V1_5 w (each service_entry xs) an_entry
unfolding kept
none_named w [] e = refl
none_named w (x ∷ xs) e = by x.name x.description (none_named w xs) e
  where
    by : (name description : Option (List ℕ)) → (list_any is_named xs ≡ false → items_kept V1_5 w (each service_classification xs) (a_record classification) ≡ items_kept V1_5 w (each service_entry xs) an_entry)
        → ((is_some name || is_some description) || list_any is_named xs) ≡ false
        → items_kept V1_5 w (each service_classification (x ∷ xs)) (a_record classification) ≡ more (kept V1_5 w (entry_of (flow_tree name description x.classification)) an_entry) (items_kept V1_5 w (each service_entry xs) an_entry)
    by None None rest e = ap (more (kept V1_5 w (classification_tree x.classification) an_entry)) (rest e)
    by (Some s) None rest e = absurd cc
    by (Some s) (Some d) rest e = absurd cc
    by None (Some d) rest e = absurd cc

-- Where the version has no flow, each entry is kept as its classification.
unnamed_kept : (w : SpecVersion) (xs : List ServiceData) → (knows V1_5 w && list_any is_named xs) ≡ false → items_kept w w (each service_classification xs) (a_record classification) ≡ items_kept w w (each service_entry xs) an_entry
unnamed_kept V1_3 xs e = kept_alike service_classification service_entry (a_record classification) an_entry V1_3 V1_3 xs (λ x. flow_dropped V1_3 V1_3 x refl)
unnamed_kept V1_4 xs e = kept_alike service_classification service_entry (a_record classification) an_entry V1_4 V1_4 xs (λ x. flow_dropped V1_4 V1_4 x refl)
unnamed_kept V1_5 xs e = none_named V1_5 xs e

pub unnamed_inner : (w : SpecVersion) (cs : List DataClassification) (xs : List ServiceData) (b : Bool) → b ≡ (knows V1_5 w && list_any is_named xs) → b ≡ false → list_tree classification_tree cs ≡ list_tree service_classification xs
    → inner (list_tree classification_tree cs) w (a_list classifications) ≡ inner (list_tree service_entry xs) w a_data
unnamed_inner w cs xs b is e same = entries_inner w cs (each service_entry xs) (ap (λ t. items_kept w w (held t) (a_record classification)) same ∙ unnamed_kept w xs (sym is ∙ e))

-- what is kept of one flow
flow_kept_any : (x : ServiceData) (ts : Trees) → any_flow (more (kept V1_5 V1_5 (service_entry x) an_entry) ts) ≡ (is_named x || any_flow ts)
unfolding kept rows
flow_kept_any x ts = by x.name x.description
  where
    by : (name description : Option (List ℕ)) → any_flow (more (kept V1_5 V1_5 (entry_of (flow_tree name description x.classification)) an_entry) ts) ≡ ((is_some name || is_some description) || any_flow ts)
    by None None = refl
    by (Some s) None = refl
    by None (Some d) = refl
    by (Some s) (Some d) = refl

flows_any : (xs : List ServiceData) → any_flow (items_kept V1_5 V1_5 (each service_entry xs) an_entry) ≡ list_any is_named xs
unfolding kept
flows_any [] = refl
flows_any (x ∷ xs) = flow_kept_any x (items_kept V1_5 V1_5 (each service_entry xs) an_entry) ∙ ap (λ b. is_named x || b) (flows_any xs)

flow_node : (x : ServiceData) (rest : Nodes)
    → ((if is_passed_over (keep V1_5 (service_data_tree x) (a_record service_data)) then no_nodes else lone (item_node (each_under (list flows).name) (keep V1_5 (service_data_tree x) (a_record service_data)) V1_5 (a_record service_data) (nodes_of (keep V1_5 (service_data_tree x) (a_record service_data)) V1_5 (a_record service_data)))) ⊕ rest)
    ≡ ((if is_passed_over (keep V1_5 (service_entry x) an_entry) then no_nodes else lone (item_node as_flows (keep V1_5 (service_entry x) an_entry) V1_5 an_entry (nodes_of (keep V1_5 (service_entry x) an_entry) V1_5 an_entry))) ⊕ rest)
unfolding kept nodes_of rows list
flow_node x rest = by x.name x.description
  where
    by : (name description : Option (List ℕ))
        → ((if is_passed_over (keep V1_5 (flow_tree name description x.classification) (a_record service_data)) then no_nodes else lone (item_node (each_under (list flows).name) (keep V1_5 (flow_tree name description x.classification) (a_record service_data)) V1_5 (a_record service_data) (nodes_of (keep V1_5 (flow_tree name description x.classification) (a_record service_data)) V1_5 (a_record service_data)))) ⊕ rest)
        ≡ ((if is_passed_over (keep V1_5 (entry_of (flow_tree name description x.classification)) an_entry) then no_nodes else lone (item_node as_flows (keep V1_5 (entry_of (flow_tree name description x.classification)) an_entry) V1_5 an_entry (nodes_of (keep V1_5 (entry_of (flow_tree name description x.classification)) an_entry) V1_5 an_entry))) ⊕ rest)
    by None None = refl
    by (Some s) None = refl
    by None (Some d) = refl
    by (Some s) (Some d) = refl

flow_nodes : (xs : List ServiceData) → items_nodes (items_kept V1_5 V1_5 (each service_data_tree xs) (a_record service_data)) V1_5 (each_under (list flows).name) (a_record service_data) ≡ items_nodes (items_kept V1_5 V1_5 (each service_entry xs) an_entry) V1_5 as_flows an_entry
unfolding kept nodes_of
flow_nodes [] = refl
flow_nodes (x ∷ xs) =
    flow_node x _
    ∙ ap (λ ys. (if is_passed_over (keep V1_5 (service_entry x) an_entry) then no_nodes else lone (item_node as_flows (keep V1_5 (service_entry x) an_entry) V1_5 an_entry (nodes_of (keep V1_5 (service_entry x) an_entry) V1_5 an_entry))) ⊕ ys) (flow_nodes xs)

flows_inner_1_5 : (xs : List ServiceData) → list_any is_named xs ≡ true → inner (list_tree service_data_tree xs) V1_5 (a_list flows) ≡ inner (list_tree service_entry xs) V1_5 a_data
unfolding inner kept nodes_of list
flows_inner_1_5 xs e =
    let us = items_kept V1_5 V1_5 (each service_entry xs) an_entry in
    ap events_of_all (flow_nodes xs)
    ∙ ap (λ b. events_of_all (items_nodes us V1_5 (if b then as_flows else each_under (list classifications).name) an_entry)) (sym (flows_any xs ∙ e))

known_flows : (w : SpecVersion) (b : Bool) → (knows V1_5 w && b) ≡ true → (knows V1_5 w ≡ true) × (b ≡ true)
known_flows V1_3 b e = absurd cc
known_flows V1_4 b e = absurd cc
known_flows V1_5 b e = (refl, e)

pub flows_inner : (w : SpecVersion) (xs : List ServiceData) (b : Bool) → b ≡ (knows V1_5 w && list_any is_named xs) → b ≡ true → inner (list_tree service_data_tree xs) w (a_list flows) ≡ inner (list_tree service_entry xs) w a_data
flows_inner w xs b is e =
    let both = known_flows w (list_any is_named xs) (sym is ∙ e) in
    let P : SpecVersion → Type 0 = λ w. inner (list_tree service_data_tree xs) w (a_list flows) ≡ inner (list_tree service_entry xs) w a_data in
    subst P (late w both.0) (flows_inner_1_5 xs both.1)

-- ---- under a tag

pub data_written : (tag : List ℕ) (x : Data) (w : SpecVersion) → start_tag tag ∷ inner (data_tree x) w a_data ++ end_tag tag ∷ [] ≡ spelled_events (data_tree x) w tag a_data
unfolding spelled_events inner kept nodes_of
data_written tag (variant.Classification xs) w = refl
data_written tag (variant.ServiceData xs) w = refl
