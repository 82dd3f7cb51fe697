-- Bills that are the same are written alike.
use Rattle.std.specs.Prelude.{◌≡◌, refl, ℕ, List, [], ◌∷◌, Bool, true, false, not, ◌&&◌, if◌then◌else◌}
use Rattle.std.proofs.Common.{true≢false}
use mathlib.Core.Path.{ap, sym, ◌∙◌}
use Rattle.cdx_models.specs.declared.bom.SpecVersion.{SpecVersion}
use Rattle.cdx_models.specs.declared.bom.SpecVersion.TheVariants.{V1_3, V1_4, V1_5}
use Rattle.cdx_models.specs.Versions.{knows}
use Rattle.cdx_models.specs.Trees.{Name, service_data, Tree, absent, text, number, boolean, items, fields, Trees, none, more, is_absent}
use Rattle.cdx_schema.specs.Kinds.{Kind, a_text, a_list, a_tools, a_data, a_bill, Need, Spelled, attribute, attribute_or, content, one_text, as_cdata, child, filled_child, children, either_child, Row}
use Rattle.cdx_schema.specs.Table.{rows, list}
use Rattle.cdx_schema.specs.Held.{held_kind}
use Rattle.cdx_models.specs.Entries.{is_flow}
use Rattle.cdx_schema.specs.Keeping.{kept, items_kept, rows_kept, kept_record}
use Rattle.cdx_schema.specs.Trips.{settled, items_settled, rows_settled, list_settled, is_hollow, is_passed_over}
use Rattle.cdx_schema.proofs.Sound.{sound_xml, all_sound, sound, sound_parts, whole_kind}
use Rattle.std.specs.Prelude.{codes}
use Rattle.cdx_schema.specs.Kinds.{classifications}
use Rattle.cdx_schema.specs.XmlTexts.{text_of}
use Rattle.cdx_schema.specs.XmlSpelling.{nodes_of, items_nodes, fields_nodes, row_nodes, wrapped, flow_of, item_node, ItemSpelling, items_of, any_flow, attributes_of, attributes_in, row_attributes, attribute_of, tag_of, ordered, signed_in, lone, root, plain_element, each_under, as_flows}
use Rattle.cdx_schema.proofs.Commute.{filled_whole}
use Rattle.cdx_schema.proofs.Alike.{settled_more, settled_there, passed_settled, hollow_settled}
use Rattle.cdx_events.specs.Nodes.{Node, Nodes, cdata, no_nodes}
use Rattle.cdx_schema.specs.Nodes.{◌⊕◌}
use Rattle.cdx_schema.proofs.Basics.{more_is}

-- ---- below 1.5 a version keeps exactly the same of the same

abbrev pub is_low : SpecVersion → Bool
is_low V1_5 = false
is_low _ = true

low_none : (w l : SpecVersion) (k : Kind) → is_low w ≡ true → kept w l (list_settled k none) k ≡ items none
unfolding kept
low_none V1_3 l a_tools h = refl
low_none V1_4 l a_tools h = refl
low_none V1_5 l a_tools h = absurd (true≢false (sym h))
low_none w l _ h = refl

mutual
  unfolding kept settled

  low : (w l : SpecVersion) (t : Tree) (k : Kind) → is_low w ≡ true → kept w l (settled t k) k ≡ kept w l t k
  low w l (items none) k h = low_none w l k h
  low w l (items (more t ts)) k h = ap (λ x. kept w l x k) (settled_more k (settled t (held_kind k)) (items_settled ts (held_kind k))) ∙ ap items (more_is (low w l t (held_kind k) h) (items_low w l ts (held_kind k) h))
  low w l (fields n ts) k h = ap (kept_record w k n) (rows_low w l ts (rows n) h)
  low w l _ k h = refl

  items_low : (w l : SpecVersion) (ts : Trees) (k : Kind) → is_low w ≡ true → items_kept w l (items_settled ts k) k ≡ items_kept w l ts k
  items_low w l none k h = refl
  items_low w l (more t ts) k h = more_is (low w l t k h) (items_low w l ts k h)

  rows_low : (w l : SpecVersion) (ts : Trees) (rs : List Row) → is_low w ≡ true → rows_kept w l (rows_settled ts rs) rs ≡ rows_kept w l ts rs
  rows_low w l none rs h = refl
  rows_low w l (more t ts) [] h = refl
  rows_low w l (more t ts) (r ∷ rs) h = more_is (ap (λ x. if knows r.since w then x else absent) (low w l t r.kind h)) (rows_low w l ts rs h)

pub kept_low : (w l : SpecVersion) (b c : Tree) (k : Kind) → is_low w ≡ true → settled b k ≡ settled c k → kept w l b k ≡ kept w l c k
kept_low w l b c k h e = sym (low w l b k h) ∙ (ap (λ x. kept w l x k) e ∙ low w l c k h)

-- ---- in XML an empty tool list and an object without parts are written alike

settled_text : (t : Tree) (k : Kind) → text_of (settled t k) ≡ text_of t
unfolding settled
settled_text (items none) a_tools = refl
settled_text (items (more t ts)) a_tools = refl
settled_text (items ts) _ = refl
settled_text _ k = refl

attribute_alike : (q : List ℕ) (t u : Tree) → is_absent t ≡ is_absent u → text_of t ≡ text_of u → attribute_of q t ≡ attribute_of q u
attribute_alike q t u a b = rw (a, b) refl

pub row_attributes_alike : (r : Row) (t u : Tree) → is_absent t ≡ is_absent u → text_of t ≡ text_of u → row_attributes r t ≡ row_attributes r u
row_attributes_alike r t u a b = by r.xml
  where
    by : (x : Spelled) → row_attributes (record r { xml = x }) t ≡ row_attributes (record r { xml = x }) u
    by (attribute q) = attribute_alike q t u a b
    by (attribute_or q m) = attribute_alike q t u a b
    by _ = refl

attributes_settled : (ts : Trees) (rs : List Row) (w : SpecVersion) → attributes_in (rows_settled ts rs) rs w ≡ attributes_in ts rs w
unfolding settled
attributes_settled none rs w = refl
attributes_settled (more t ts) [] w = refl
attributes_settled (more t ts) (r ∷ rs) w = rw (row_attributes_alike r (settled t r.kind) t (settled_there t r.kind) (settled_text t r.kind), attributes_settled ts rs w) refl

list_attributes : (k : Kind) (ts : Trees) (w : SpecVersion) → attributes_of (list_settled k ts) w k ≡ []
unfolding rows
list_attributes a_tools none w = refl
list_attributes a_tools (more t ts) w = refl
list_attributes _ ts w = refl

of_settled : (t : Tree) (w : SpecVersion) (k : Kind) → attributes_of (settled t k) w k ≡ attributes_of t w k
unfolding settled
of_settled (items ts) w k = list_attributes k (items_settled ts (held_kind k)) w
of_settled (fields n ts) w k = ap (ordered n) (attributes_settled ts (rows n) w)
of_settled _ w k = refl

list_tag : (k : Kind) (ts : Trees) (tag : List ℕ) → tag_of k (list_settled k ts) tag ≡ tag
list_tag a_tools none tag = refl
list_tag a_tools (more t ts) tag = refl
list_tag _ ts tag = refl

tag_settled : (t : Tree) (k : Kind) (tag : List ℕ) → tag_of k (settled t k) tag ≡ tag_of k t tag
unfolding settled
tag_settled (items ts) k tag = list_tag k (items_settled ts (held_kind k)) tag
tag_settled _ k tag = refl

pub wrapped_alike : (t u : Tree) (w : SpecVersion) (tag : List ℕ) (k : Kind) (xs ys : Nodes) → tag_of k t tag ≡ tag_of k u tag → attributes_of t w k ≡ attributes_of u w k → xs ≡ ys → wrapped t w tag k xs ≡ wrapped u w tag k ys
wrapped_alike t u w tag k xs ys a b c = rw (a, b, c) refl

wrapped_settled : (t : Tree) (w : SpecVersion) (tag : List ℕ) (k : Kind) (xs ys : Nodes) → xs ≡ ys → wrapped (settled t k) w tag k xs ≡ wrapped t w tag k ys
wrapped_settled t w tag k xs ys e = wrapped_alike (settled t k) t w tag k xs ys (tag_settled t k tag) (of_settled t w k) e

abbrev pub in_flow : (t : Tree) (w : SpecVersion) (k : Kind) (xs : Nodes) → Node
in_flow t w k xs = plain_element (codes "dataflow") [] (lone (wrapped t w (codes "classification") k xs))

list_flow : (k : Kind) (ts : Trees) (w : SpecVersion) (xs : Nodes) → flow_of (list_settled k ts) w k xs ≡ in_flow (list_settled k ts) w k xs
list_flow a_tools none w xs = refl
list_flow a_tools (more t ts) w xs = refl
list_flow _ ts w xs = refl

in_flow_settled : (t : Tree) (w : SpecVersion) (k : Kind) (xs ys : Nodes) → xs ≡ ys → in_flow (settled t k) w k xs ≡ in_flow t w k ys
in_flow_settled t w k xs ys e = ap (λ x. plain_element (codes "dataflow") [] (lone x)) (wrapped_settled t w (codes "classification") k xs ys e)

flow_settled : (t : Tree) (w : SpecVersion) (k : Kind) (xs ys : Nodes) → xs ≡ ys → flow_of (settled t k) w k xs ≡ flow_of t w k ys
unfolding settled
flow_settled (items ts) w k xs ys e = list_flow k (items_settled ts (held_kind k)) w xs ∙ in_flow_settled (items ts) w k xs ys e
flow_settled (fields service_data ts) w k xs ys e = wrapped_settled (fields service_data ts) w (codes "dataflow") k xs ys e
flow_settled t w k xs ys e = in_flow_settled t w k xs ys e

item_settled : (how : ItemSpelling) (t : Tree) (w : SpecVersion) (k : Kind) (xs ys : Nodes) → xs ≡ ys → item_node how (settled t k) w k xs ≡ item_node how t w k ys
item_settled (each_under tag) t w k xs ys e = wrapped_settled t w tag k xs ys e
item_settled as_flows t w k xs ys e = flow_settled t w k xs ys e

is_flow_settled : (n : Name) (ts : Trees) → is_flow n (rows_settled ts (rows n)) ≡ is_flow n ts
unfolding settled rows
is_flow_settled service_data none = refl
is_flow_settled service_data (more a none) = ap (λ x. not (x && true)) (settled_there a a_text)
is_flow_settled service_data (more a (more b ts)) = rw (settled_there a a_text, settled_there b a_text) refl
is_flow_settled _ ts = refl

list_any : (k : Kind) (us ts : Trees) → any_flow (more (list_settled k us) ts) ≡ any_flow ts
list_any a_tools none ts = refl
list_any a_tools (more u us) ts = refl
list_any _ us ts = refl

any_settled : (ts : Trees) (k : Kind) → any_flow (items_settled ts k) ≡ any_flow ts
unfolding settled
any_settled none k = refl
any_settled (more absent ts) k = any_settled ts k
any_settled (more (text s) ts) k = any_settled ts k
any_settled (more (number s) ts) k = any_settled ts k
any_settled (more (boolean s) ts) k = any_settled ts k
any_settled (more (items us) ts) k = list_any k (items_settled us (held_kind k)) (items_settled ts k) ∙ any_settled ts k
any_settled (more (fields n us) ts) k = rw (is_flow_settled n us, any_settled ts k) refl

items_of_settled : (k : Kind) (ts : Trees) (j : Kind) → items_of k (items_settled ts j) ≡ items_of k ts
items_of_settled (a_list l) ts j = refl
items_of_settled a_tools ts j = refl
items_of_settled a_data ts j = ap (λ b. if b then as_flows else each_under (list classifications).name) (any_settled ts j)
items_of_settled _ ts j = refl

none_nodes : (w : SpecVersion) (k : Kind) → nodes_of (list_settled k none) w k ≡ no_nodes
unfolding nodes_of rows
none_nodes w a_tools = refl
none_nodes w _ = refl

pub row_nodes_alike : (x : Spelled) (n : Need) (t u : Tree) (w : SpecVersion) (k : Kind) (xs ys : Nodes) → sound_xml x n k ≡ true → (whole_kind k ≡ true → is_hollow t ≡ is_hollow u) → text_of t ≡ text_of u → ((tag : List ℕ) → wrapped t w tag k xs ≡ wrapped u w tag k ys) → xs ≡ ys
    → row_nodes x t w k xs ≡ row_nodes x u w k ys
row_nodes_alike content n t u w k xs ys s h b f e = e
row_nodes_alike one_text n t u w k xs ys s h b f e = e
row_nodes_alike as_cdata n t u w k xs ys s h b f e = ap (λ x. lone (cdata x)) b
row_nodes_alike (child q) n t u w k xs ys s h b f e = ap lone (f q)
row_nodes_alike (filled_child q) n t u w k xs ys s h b f e = rw (h (filled_whole n k s), f q) refl
row_nodes_alike (children q) n t u w k xs ys s h b f e = e
row_nodes_alike (either_child q m) n t u w k xs ys s h b f e = ap lone (f q)
row_nodes_alike _ n t u w k xs ys s h b f e = refl

pub join_alike : (b c : Bool) (x y xs ys : Nodes) → b ≡ c → x ≡ y → xs ≡ ys → ((if b then no_nodes else x) ⊕ xs) ≡ ((if c then no_nodes else y) ⊕ ys)
join_alike b c x y xs ys p q r = rw (p, q, r) refl

pub field_alike : (k b c : Bool) (x y xs ys : Nodes) → b ≡ c → x ≡ y → xs ≡ ys → ((if k && not b then x else no_nodes) ⊕ xs) ≡ ((if k && not c then y else no_nodes) ⊕ ys)
field_alike k b c x y xs ys p q r = rw (p, q, r) refl

mutual
  unfolding nodes_of settled

  nodes_settled : (t : Tree) (w : SpecVersion) (k : Kind) → nodes_of (settled t k) w k ≡ nodes_of t w k
  nodes_settled (items none) w k = none_nodes w k
  nodes_settled (items (more t ts)) w k =
      ap (λ x. nodes_of x w k) (settled_more k (settled t (held_kind k)) (items_settled ts (held_kind k)))
      ∙ (ap (λ how. items_nodes (items_settled (more t ts) (held_kind k)) w how (held_kind k)) (items_of_settled k (more t ts) (held_kind k))
      ∙ join_alike (is_passed_over (settled t (held_kind k))) (is_passed_over t) (lone (item_node (items_of k (more t ts)) (settled t (held_kind k)) w (held_kind k) (nodes_of (settled t (held_kind k)) w (held_kind k)))) (lone (item_node (items_of k (more t ts)) t w (held_kind k) (nodes_of t w (held_kind k))))
      (items_nodes (items_settled ts (held_kind k)) w (items_of k (more t ts)) (held_kind k)) (items_nodes ts w (items_of k (more t ts)) (held_kind k))
      (passed_settled t (held_kind k)) (ap lone (item_settled (items_of k (more t ts)) t w (held_kind k) (nodes_of (settled t (held_kind k)) w (held_kind k)) (nodes_of t w (held_kind k)) (nodes_settled t w (held_kind k)))) (items_nodes_settled ts w (items_of k (more t ts)) (held_kind k)))
  nodes_settled (fields n ts) w k = ap (signed_in k n) (fields_nodes_settled ts w (rows n) (sound n))
  nodes_settled _ w k = refl

  items_nodes_settled : (ts : Trees) (w : SpecVersion) (how : ItemSpelling) (k : Kind) → items_nodes (items_settled ts k) w how k ≡ items_nodes ts w how k
  items_nodes_settled none w how k = refl
  items_nodes_settled (more t ts) w how k =
      join_alike (is_passed_over (settled t k)) (is_passed_over t) (lone (item_node how (settled t k) w k (nodes_of (settled t k) w k))) (lone (item_node how t w k (nodes_of t w k))) (items_nodes (items_settled ts k) w how k) (items_nodes ts w how k)
      (passed_settled t k) (ap lone (item_settled how t w k (nodes_of (settled t k) w k) (nodes_of t w k) (nodes_settled t w k))) (items_nodes_settled ts w how k)

  fields_nodes_settled : (ts : Trees) (w : SpecVersion) (rs : List Row) → all_sound rs ≡ true → fields_nodes (rows_settled ts rs) w rs ≡ fields_nodes ts w rs
  fields_nodes_settled none w rs s = refl
  fields_nodes_settled (more t ts) w [] s = refl
  fields_nodes_settled (more t ts) w (r ∷ rs) s =
      field_alike (knows r.since w) (is_absent (settled t r.kind)) (is_absent t) (row_nodes r.xml (settled t r.kind) w r.kind (nodes_of (settled t r.kind) w r.kind)) (row_nodes r.xml t w r.kind (nodes_of t w r.kind)) (fields_nodes (rows_settled ts rs) w rs) (fields_nodes ts w rs)
      (settled_there t r.kind)
      (row_nodes_alike r.xml r.need (settled t r.kind) t w r.kind (nodes_of (settled t r.kind) w r.kind) (nodes_of t w r.kind) (sound_parts r rs s).1 (hollow_settled t r.kind) (settled_text t r.kind)
      (λ tag. wrapped_settled t w tag r.kind (nodes_of (settled t r.kind) w r.kind) (nodes_of t w r.kind) (nodes_settled t w r.kind)) (nodes_settled t w r.kind))
      (fields_nodes_settled ts w rs (sound_parts r rs s).2)

root_settled : (t : Tree) (w : SpecVersion) → root (settled t a_bill) w ≡ root t w
root_settled t w = rw (of_settled t w a_bill, nodes_settled t w a_bill) refl

-- Bills that are the same have one element.
pub root_alike : (b c : Tree) (w : SpecVersion) → settled b a_bill ≡ settled c a_bill → root b w ≡ root c w
root_alike b c w e = sym (root_settled b w) ∙ (ap (λ x. root x w) e ∙ root_settled c w)
