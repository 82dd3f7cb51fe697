-- The suppliers that the second trip takes stand in no element.
use Rattle.std.specs.Prelude.{◌≡◌, refl, ℕ, List, [], ◌∷◌, Bool, true, false, not, ◌&&◌, if◌then◌else◌}
use Rattle.std.proofs.Common.{true≢false, inl, inr}
use mathlib.Core.Path.{ap, sym, ◌∙◌}
use Rattle.cdx_models.specs.declared.bom.SpecVersion.{SpecVersion}
use Rattle.cdx_models.specs.Versions.{knows}
use Rattle.cdx_models.specs.Trees.{Name, contact, entity, diff, source, evidence, service_data, Tree, absent, text, number, boolean, items, fields, Trees, none, more, is_absent}
use Rattle.cdx_schema.specs.Kinds.{Kind, a_list, a_record, a_tools, a_data, a_bill, Spelled, filled_child, Row}
use Rattle.cdx_schema.specs.Table.{rows, list}
use Rattle.cdx_schema.specs.Held.{held_kind}
use Rattle.cdx_models.specs.Entries.{is_flow}
use Rattle.cdx_schema.specs.Membership.{HasShape, HaveShape, FieldsHaveShape}
use Rattle.cdx_schema.specs.Trips.{is_hollow, is_passed_over}
use Rattle.cdx_schema.proofs.Sound.{all_sound, sound, sound_parts, whole_kind, whole_name}
use Rattle.std.specs.Prelude.{codes}
use Rattle.cdx_schema.specs.Kinds.{classifications}
use Rattle.cdx_schema.specs.XmlTexts.{text_of}
use Rattle.cdx_schema.specs.XmlSpelling.{nodes_of, items_nodes, fields_nodes, row_nodes, wrapped, flow_of, item_node, ItemSpelling, items_of, any_flow, attributes_of, attributes_in, row_attributes, tag_of, ordered, signed_in, lone, root, plain_element, each_under, as_flows}
use Rattle.cdx_schema.specs.Suppliers.{is_supplier, unsupplied, items_unsupplied, rows_unsupplied}
use Rattle.cdx_schema.proofs.KeptOf.{IsField}
use Rattle.cdx_schema.proofs.BareTwice.{unsupplied_there, no_child_unsupplied, no_supplier}
use Rattle.cdx_schema.proofs.Written.{row_attributes_alike, wrapped_alike, in_flow, row_nodes_alike, join_alike}
use Rattle.cdx_events.specs.Nodes.{Nodes, no_nodes}
use Rattle.cdx_schema.specs.Nodes.{◌⊕◌}

unsupplied_text : (t : Tree) → text_of (unsupplied t) ≡ text_of t
unfolding unsupplied
unsupplied_text absent = refl
unsupplied_text _ = refl

supplier_attributes : (r : Row) (t u : Tree) → is_supplier r.xml r.kind ≡ true → row_attributes r t ≡ row_attributes r u
supplier_attributes r t u h = by r.xml h
  where
    by : (x : Spelled) → is_supplier x r.kind ≡ true → row_attributes (record r { xml = x }) t ≡ row_attributes (record r { xml = x }) u
    by (filled_child q) e = refl
    by _ e = absurd (true≢false (sym e))

either_attributes : (r : Row) (t : Tree) (b c : Bool) → is_supplier r.xml r.kind ≡ b → row_attributes r (if b && c then absent else unsupplied t) ≡ row_attributes r t
either_attributes r t true c h = supplier_attributes r (if c then absent else unsupplied t) t h
either_attributes r t false c h = row_attributes_alike r (unsupplied t) t (unsupplied_there t) (unsupplied_text t)

attributes_unsupplied : (ts : Trees) (rs : List Row) (w : SpecVersion) → attributes_in (rows_unsupplied ts rs) rs w ≡ attributes_in ts rs w
unfolding unsupplied
attributes_unsupplied none rs w = refl
attributes_unsupplied (more t ts) [] w = refl
attributes_unsupplied (more t ts) (r ∷ rs) w = rw (either_attributes r t (is_supplier r.xml r.kind) (is_hollow t) refl, attributes_unsupplied ts rs w) refl

of_unsupplied : (t : Tree) (w : SpecVersion) (k : Kind) → attributes_of (unsupplied t) w k ≡ attributes_of t w k
unfolding unsupplied
of_unsupplied (fields n ts) w k = ap (ordered n) (attributes_unsupplied ts (rows n) w)
of_unsupplied _ w k = refl

tag_unsupplied : (t : Tree) (k : Kind) (tag : List ℕ) → tag_of k (unsupplied t) tag ≡ tag_of k t tag
unfolding unsupplied
tag_unsupplied absent k tag = refl
tag_unsupplied _ k tag = refl

wrapped_unsupplied : (t : Tree) (w : SpecVersion) (tag : List ℕ) (k : Kind) (xs ys : Nodes) → xs ≡ ys → wrapped (unsupplied t) w tag k xs ≡ wrapped t w tag k ys
wrapped_unsupplied t w tag k xs ys e = wrapped_alike (unsupplied t) t w tag k xs ys (tag_unsupplied t k tag) (of_unsupplied t w k) e

in_flow_unsupplied : (t : Tree) (w : SpecVersion) (k : Kind) (xs ys : Nodes) → xs ≡ ys → in_flow (unsupplied t) w k xs ≡ in_flow t w k ys
in_flow_unsupplied t w k xs ys e = ap (λ x. plain_element (codes "dataflow") [] (lone x)) (wrapped_unsupplied t w (codes "classification") k xs ys e)

flow_unsupplied : (t : Tree) (w : SpecVersion) (k : Kind) (xs ys : Nodes) → xs ≡ ys → flow_of (unsupplied t) w k xs ≡ flow_of t w k ys
unfolding unsupplied
flow_unsupplied (fields service_data ts) w k xs ys e = wrapped_unsupplied (fields service_data ts) w (codes "dataflow") k xs ys e
flow_unsupplied t w k xs ys e = in_flow_unsupplied t w k xs ys e

item_unsupplied : (how : ItemSpelling) (t : Tree) (w : SpecVersion) (k : Kind) (xs ys : Nodes) → xs ≡ ys → item_node how (unsupplied t) w k xs ≡ item_node how t w k ys
item_unsupplied (each_under tag) t w k xs ys e = wrapped_unsupplied t w tag k xs ys e
item_unsupplied as_flows t w k xs ys e = flow_unsupplied t w k xs ys e

is_flow_unsupplied : (n : Name) (ts : Trees) → is_flow n (rows_unsupplied ts (rows n)) ≡ is_flow n ts
unfolding unsupplied rows
is_flow_unsupplied service_data none = refl
is_flow_unsupplied service_data (more a none) = ap (λ x. not (x && true)) (unsupplied_there a)
is_flow_unsupplied service_data (more a (more b ts)) = rw (unsupplied_there a, unsupplied_there b) refl
is_flow_unsupplied _ ts = refl

any_unsupplied : (ts : Trees) → any_flow (items_unsupplied ts) ≡ any_flow ts
unfolding unsupplied
any_unsupplied none = refl
any_unsupplied (more absent ts) = any_unsupplied ts
any_unsupplied (more (text s) ts) = any_unsupplied ts
any_unsupplied (more (number s) ts) = any_unsupplied ts
any_unsupplied (more (boolean s) ts) = any_unsupplied ts
any_unsupplied (more (items us) ts) = any_unsupplied ts
any_unsupplied (more (fields n us) ts) = rw (is_flow_unsupplied n us, any_unsupplied ts) refl

items_of_unsupplied : (k : Kind) (ts : Trees) → items_of k (items_unsupplied ts) ≡ items_of k ts
items_of_unsupplied (a_list l) ts = refl
items_of_unsupplied a_tools ts = refl
items_of_unsupplied a_data ts = ap (λ b. if b then as_flows else each_under (list classifications).name) (any_unsupplied ts)
items_of_unsupplied _ ts = refl

whole_no_supplier : (n : Name) → whole_name n ≡ true → no_supplier (rows n) ≡ true
unfolding rows
whole_no_supplier contact h = refl
whole_no_supplier entity h = refl
whole_no_supplier diff h = refl
whole_no_supplier source h = refl
whole_no_supplier evidence h = refl
whole_no_supplier _ h = absurd (true≢false (sym h))

hollow_unsupplied : (t : Tree) (k : Kind) → whole_kind k ≡ true → HasShape t k → is_hollow (unsupplied t) ≡ is_hollow t
unfolding unsupplied is_hollow
hollow_unsupplied (fields n ts) (a_record m) e h = no_child_unsupplied ts (rows n) (whole_no_supplier n (ap whole_name h.0 ∙ e))
hollow_unsupplied (fields n ts) _ e h = absurd (true≢false (sym e))
hollow_unsupplied _ k e h = refl

hollow_at : (t : Tree) (r : Row) → IsField t r → whole_kind r.kind ≡ true → is_hollow (unsupplied t) ≡ is_hollow t
unfolding unsupplied
hollow_at t r (inl h) e = ap (λ x. is_hollow (unsupplied x)) h.0 ∙ sym (ap is_hollow h.0)
hollow_at t r (inr h) e = hollow_unsupplied t r.kind e h

passed_unsupplied : (t : Tree) → is_passed_over (unsupplied t) ≡ is_passed_over t
unfolding unsupplied is_hollow
passed_unsupplied (fields contact ts) = no_child_unsupplied ts (rows contact) (unfold rows in refl)
passed_unsupplied _ = refl

abbrev RowNodes : Row → SpecVersion → Tree → Nodes
RowNodes r w t = if knows r.since w && not (is_absent t) then row_nodes r.xml t w r.kind (nodes_of t w r.kind) else no_nodes

-- A hollow supplier isn't written.
supplier_nodes : (x : Spelled) (t : Tree) (w : SpecVersion) (k : Kind) (xs : Nodes) → is_supplier x k ≡ true → is_hollow t ≡ true → row_nodes x t w k xs ≡ no_nodes
supplier_nodes (filled_child q) t w k xs s h = rw h refl
supplier_nodes _ t w k xs s h = absurd (true≢false (sym s))

either_same : (b : Bool) (x : Nodes) → x ≡ no_nodes → no_nodes ≡ (if b then x else no_nodes)
either_same true x h = sym h
either_same false x h = refl

row_gone : (r : Row) (w : SpecVersion) → RowNodes r w absent ≡ no_nodes
row_gone r w = by (knows r.since w)
  where
    by : (b : Bool) → (if b && false then row_nodes r.xml absent w r.kind (nodes_of absent w r.kind) else no_nodes) ≡ no_nodes
    by true = refl
    by false = refl

supplier_row : (r : Row) (w : SpecVersion) (t : Tree) (s c : Bool) → is_supplier r.xml r.kind ≡ s → is_hollow t ≡ c → RowNodes r w (unsupplied t) ≡ RowNodes r w t → RowNodes r w (if s && c then absent else unsupplied t) ≡ RowNodes r w t
supplier_row r w t true true i h e = row_gone r w ∙ either_same (knows r.since w && not (is_absent t)) (row_nodes r.xml t w r.kind (nodes_of t w r.kind)) (supplier_nodes r.xml t w r.kind (nodes_of t w r.kind) i h)
supplier_row r w t true false i h e = e
supplier_row r w t false c i h e = e

row_alike : (k b c : Bool) (x y : Nodes) → b ≡ c → x ≡ y → (if k && not b then x else no_nodes) ≡ (if k && not c then y else no_nodes)
row_alike k b c x y p q = rw (p, q) refl

absent_nodes : (t : Tree) (w : SpecVersion) (r : Row) → IsField t r → (HasShape t r.kind → nodes_of (unsupplied t) w r.kind ≡ nodes_of t w r.kind) → nodes_of (unsupplied t) w r.kind ≡ nodes_of t w r.kind
unfolding unsupplied
absent_nodes t w r (inl h) f = ap (λ x. nodes_of (unsupplied x) w r.kind) h.0 ∙ sym (ap (λ x. nodes_of x w r.kind) h.0)
absent_nodes t w r (inr h) f = f h

mutual
  unfolding nodes_of unsupplied

  nodes_unsupplied : (t : Tree) (w : SpecVersion) (k : Kind) → HasShape t k → nodes_of (unsupplied t) w k ≡ nodes_of t w k
  nodes_unsupplied (items ts) w k h = ap (λ how. items_nodes (items_unsupplied ts) w how (held_kind k)) (items_of_unsupplied k ts) ∙ items_nodes_unsupplied ts w (items_of k ts) (held_kind k) h.1
  nodes_unsupplied (fields n ts) w k h = ap (signed_in k n) (fields_nodes_unsupplied ts w (rows n) (sound n) h.1)
  nodes_unsupplied _ w k h = refl

  items_nodes_unsupplied : (ts : Trees) (w : SpecVersion) (how : ItemSpelling) (k : Kind) → HaveShape ts k → items_nodes (items_unsupplied ts) w how k ≡ items_nodes ts w how k
  items_nodes_unsupplied none w how k h = refl
  items_nodes_unsupplied (more t ts) w how k h =
      join_alike (is_passed_over (unsupplied t)) (is_passed_over t) (lone (item_node how (unsupplied t) w k (nodes_of (unsupplied t) w k))) (lone (item_node how t w k (nodes_of t w k))) (items_nodes (items_unsupplied ts) w how k) (items_nodes ts w how k)
      (passed_unsupplied t) (ap lone (item_unsupplied how t w k (nodes_of (unsupplied t) w k) (nodes_of t w k) (nodes_unsupplied t w k h.0))) (items_nodes_unsupplied ts w how k h.1)

  fields_nodes_unsupplied : (ts : Trees) (w : SpecVersion) (rs : List Row) → all_sound rs ≡ true → FieldsHaveShape ts rs → fields_nodes (rows_unsupplied ts rs) w rs ≡ fields_nodes ts w rs
  fields_nodes_unsupplied none w rs s h = refl
  fields_nodes_unsupplied (more t ts) w [] s h = refl
  fields_nodes_unsupplied (more t ts) w (r ∷ rs) s h =
      let e : nodes_of (unsupplied t) w r.kind ≡ nodes_of t w r.kind = absent_nodes t w r h.0 (nodes_unsupplied t w r.kind) in
      let p : RowNodes r w (if is_supplier r.xml r.kind && is_hollow t then absent else unsupplied t) ≡ RowNodes r w t =
      supplier_row r w t (is_supplier r.xml r.kind) (is_hollow t) refl refl
      (row_alike (knows r.since w) (is_absent (unsupplied t)) (is_absent t) (row_nodes r.xml (unsupplied t) w r.kind (nodes_of (unsupplied t) w r.kind)) (row_nodes r.xml t w r.kind (nodes_of t w r.kind)) (unsupplied_there t)
      (row_nodes_alike r.xml r.need (unsupplied t) t w r.kind (nodes_of (unsupplied t) w r.kind) (nodes_of t w r.kind) (sound_parts r rs s).1 (hollow_at t r h.0) (unsupplied_text t)
      (λ tag. wrapped_unsupplied t w tag r.kind (nodes_of (unsupplied t) w r.kind) (nodes_of t w r.kind) e) e)) in
      ap (λ x. x ⊕ fields_nodes (rows_unsupplied ts rs) w rs) p ∙ ap (λ x. RowNodes r w t ⊕ x) (fields_nodes_unsupplied ts w rs (sound_parts r rs s).2 h.1)

pub root_unsupplied : (t : Tree) (w : SpecVersion) → HasShape t a_bill → root (unsupplied t) w ≡ root t w
root_unsupplied t w h = rw (of_unsupplied t w a_bill, nodes_unsupplied t w a_bill h) refl
