-- The shape of a kind asks nothing of texts.
use Rattle.std.specs.Prelude.{◌≡◌, ℕ, List, [], ◌∷◌, true, ◌⊎◌}
use Rattle.std.proofs.Common.{inl, inr}
use Rattle.serde_json.specs.Data.{Data, Items, no_items, item, Members, no_members}
use Rattle.serde_json.specs.Data as json
use Rattle.cdx_models.specs.Trees.{Tree, absent, text, items, fields, Trees, none, more}
use Rattle.cdx_schema.specs.Kinds.{Kind, a_text, a_reference, a_version, Row}
use Rattle.cdx_schema.specs.Held.{held_kind}
use Rattle.cdx_schema.specs.Table.{rows}
use Rattle.cdx_schema.specs.Membership.{IsOfAll, AreOfAll, AreFieldsAll, IsTextOf, AnyText, HasShape, HaveShape, FieldsHaveShape, may_lack}
use Rattle.cdx_schema.specs.Texts.{AreTexts, AreTextsIn, AreTextsOf, AttributeTexts, NodeTexts, NodesTexts}
use Rattle.cdx_events.specs.declared.name.OwnedAttribute.{OwnedAttribute}
use Rattle.cdx_events.specs.Nodes.{Node, characters, cdata, element, Nodes, no_nodes, node}

text_shape : (Q : List ℕ → Type 0) (k : Kind) (s : List ℕ) → IsTextOf Q k s → IsTextOf AnyText k s
text_shape Q a_text s h = tt
text_shape Q a_reference s h = tt
text_shape Q a_version s h = h
text_shape Q _ s h = h

field_shape : (Q : List ℕ → Type 0) (t : Tree) (r : Row) → (IsOfAll Q t r.kind → HasShape t r.kind) → ((t ≡ absent) × (may_lack r.need ≡ true)) ⊎ IsOfAll Q t r.kind → ((t ≡ absent) × (may_lack r.need ≡ true)) ⊎ HasShape t r.kind
field_shape Q t r f (inl h) = inl h
field_shape Q t r f (inr h) = inr (f h)

-- What is of a kind has its shape.
mutual
  pub shape : (Q : List ℕ → Type 0) (t : Tree) (k : Kind) → IsOfAll Q t k → HasShape t k
  shape Q (text s) k h = text_shape Q k s h
  shape Q (items ts) k h = (h.0, shapes Q ts (held_kind k) h.1)
  shape Q (fields n ts) k h = (h.0, field_shapes Q ts (rows n) h.1)
  shape Q _ k h = h

  shapes : (Q : List ℕ → Type 0) (ts : Trees) (k : Kind) → AreOfAll Q ts k → HaveShape ts k
  shapes Q none k h = tt
  shapes Q (more t ts) k h = (shape Q t k h.0, shapes Q ts k h.1)

  field_shapes : (Q : List ℕ → Type 0) (ts : Trees) (rs : List Row) → AreFieldsAll Q ts rs → FieldsHaveShape ts rs
  field_shapes Q none [] h = tt
  field_shapes Q none (r ∷ rs) h = h
  field_shapes Q (more t ts) [] h = h
  field_shapes Q (more t ts) (r ∷ rs) h = (field_shape Q t r (shape Q t r.kind) h.0, field_shapes Q ts rs h.1)

-- ---- every document has texts of which nothing is asked

mutual
  pub any_texts : (x : Data) → AreTexts AnyText x
  any_texts json.null = tt
  any_texts (json.boolean b) = tt
  any_texts (json.number n) = tt
  any_texts (json.string s) = tt
  any_texts (json.array xs) = any_items xs
  any_texts (json.object ms) = any_members ms

  any_items : (xs : Items) → AreTextsIn AnyText xs
  any_items no_items = tt
  any_items (item x xs) = (any_texts x, any_items xs)

  any_members : (ms : Members) → AreTextsOf AnyText ms
  any_members no_members = tt
  any_members (json.member l x ms) = (any_texts x, any_members ms)

any_attributes : (as' : List OwnedAttribute) → AttributeTexts AnyText as'
any_attributes [] = tt
any_attributes (a ∷ as') = (tt, any_attributes as')

mutual
  pub any_node : (x : Node) → NodeTexts AnyText x
  any_node (characters s) = tt
  any_node (cdata s) = tt
  any_node (element n as' default xs) = (any_attributes as', any_nodes xs)

  any_nodes : (xs : Nodes) → NodesTexts AnyText xs
  any_nodes no_nodes = tt
  any_nodes (node x xs) = (any_node x, any_nodes xs)
