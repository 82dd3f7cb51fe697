-- The element that a tree is written as.
use Rattle.std.specs.Prelude.{ℕ, List, [], ◌∷◌, ◌++◌, reverse, Bool, false, not, ◌&&◌, ◌||◌, if◌then◌else◌, Some, None, codes}
use Rattle.cdx_models.specs.declared.bom.SpecVersion.{SpecVersion}
use Rattle.cdx_models.specs.Versions.{knows, namespace}
use Rattle.cdx_models.specs.Trees.{Name, license, spdx_id, service_data, signers, chain, bill, Tree, absent, text, number, boolean, items, fields, Trees, none, more, is_absent}
use Rattle.cdx_schema.specs.Kinds.{Kind, a_reference, a_license_choice, a_license_identifier, a_list, a_tools, a_data, a_signature, a_bill, tool_list, classifications, Row, Spelled, attribute, attribute_or, content, one_text, as_cdata, child, filled_child, children, either_child, the_version}
use Rattle.cdx_schema.specs.Held.{held_kind}
use Rattle.cdx_schema.specs.Table.{rows, list}
use Rattle.cdx_schema.specs.Trips.{is_hollow, is_passed_over}
use Rattle.cdx_models.specs.Entries.{is_flow}
use Rattle.cdx_events.specs.declared.name.OwnedName.{OwnedName}
use Rattle.cdx_events.specs.declared.name.OwnedAttribute.{OwnedAttribute}
use Rattle.cdx_events.specs.declared.event.XmlEvent.{XmlEvent}
use Rattle.cdx_events.specs.Nodes.{Node, characters, cdata, element, Nodes, no_nodes, node, document}
use Rattle.cdx_schema.specs.Nodes.{◌⊕◌}
use Rattle.cdx_schema.specs.XmlTexts.{text_of}

-- a name without a namespace and a prefix
abbrev pub plain_name : List ℕ → OwnedName
plain_name s = record { local_name = s; namespace = None; prefix = None }

abbrev pub plain_element : List ℕ → List OwnedAttribute → Nodes → Node
plain_element tag as' xs = element (plain_name tag) as' (record { default = None }) xs

abbrev pub lone : Node → Nodes
lone x = node x no_nodes

-- ---- attributes

abbrev pub attribute_of : List ℕ → Tree → List OwnedAttribute
attribute_of name t = if is_absent t then [] else record { name = plain_name name; value = text_of t } ∷ []

abbrev pub row_attributes : Row → Tree → List OwnedAttribute
row_attributes r t = by r.xml
  where
    by : Spelled → List OwnedAttribute
    by (attribute name) = attribute_of name t
    by (attribute_or name n) = attribute_of name t
    by _ = []

abbrev pub attributes_in : Trees → List Row → SpecVersion → List OwnedAttribute
attributes_in none rs w = []
attributes_in (more t ts) [] w = []
attributes_in (more t ts) (r ∷ rs) w = (if knows r.since w then row_attributes r t else []) ++ attributes_in ts rs w

-- A bill's serial number stands before its version.
abbrev pub ordered : Name → List OwnedAttribute → List OwnedAttribute
ordered bill as' = reverse as'
ordered _ as' = as'

abbrev pub reference_attribute : Kind → List ℕ → List OwnedAttribute
reference_attribute a_reference s = record { name = plain_name (codes "ref"); value = s } ∷ []
reference_attribute _ s = []

abbrev pub attributes_of : Tree → SpecVersion → Kind → List OwnedAttribute
attributes_of (fields n ts) w k = ordered n (attributes_in ts (rows n) w)
attributes_of (text s) w k = reference_attribute k s
attributes_of _ w k = []

-- ---- elements

-- Some values have an element name of their own.
abbrev pub name_in : Kind → Name → List ℕ → List ℕ
name_in a_license_choice license tag = codes "license"
name_in a_license_choice _ tag = codes "expression"
name_in a_license_identifier spdx_id tag = codes "id"
name_in a_license_identifier _ tag = codes "name"
name_in _ n tag = tag

abbrev pub tag_of : Kind → Tree → List ℕ → List ℕ
tag_of k (fields n ts) tag = name_in k n tag
tag_of k _ tag = tag

-- An entry of data is a `dataflow` or a `classification`; a `dataflow` can hold a classification alone.
abbrev pub wrapped : Tree → SpecVersion → List ℕ → Kind → Nodes → Node
wrapped t w tag k xs = plain_element (tag_of k t tag) (attributes_of t w k) xs

abbrev pub flow_of : Tree → SpecVersion → Kind → Nodes → Node
flow_of (fields service_data ts) w k xs = wrapped (fields service_data ts) w (codes "dataflow") k xs
flow_of t w k xs = plain_element (codes "dataflow") [] (lone (wrapped t w (codes "classification") k xs))

-- How the items of a kind are written: under a name, or as flows.
pub data ItemSpelling : Type 0 where
  each_under : List ℕ → ItemSpelling
  as_flows : ItemSpelling

abbrev pub item_node : ItemSpelling → Tree → SpecVersion → Kind → Nodes → Node
item_node (each_under tag) t w k xs = wrapped t w tag k xs
item_node as_flows t w k xs = flow_of t w k xs

abbrev pub any_flow : Trees → Bool
any_flow none = false
any_flow (more (fields n us) ts) = is_flow n us || any_flow ts
any_flow (more _ ts) = any_flow ts

abbrev pub items_of : Kind → Trees → ItemSpelling
items_of (a_list l) ts = each_under (list l).name
items_of a_tools ts = each_under (list tool_list).name
items_of a_data ts = if any_flow ts then as_flows else each_under (list classifications).name
items_of _ ts = each_under []

-- Signers and a chain stand in an element of their own; so does each.
abbrev pub signed_in : Kind → Name → Nodes → Nodes
signed_in a_signature signers xs = lone (plain_element (codes "signers") [] xs)
signed_in a_signature chain xs = lone (plain_element (codes "chain") [] xs)
signed_in _ n xs = xs

abbrev pub text_nodes : Kind → List ℕ → Nodes
text_nodes a_reference s = no_nodes
text_nodes _ s = lone (characters s)

-- what a row is written as: xs are the nodes of its tree
abbrev pub row_nodes : Spelled → Tree → SpecVersion → Kind → Nodes → Nodes
row_nodes (attribute name) t w k xs = no_nodes
row_nodes (attribute_or name n) t w k xs = no_nodes
row_nodes content t w k xs = xs
row_nodes one_text t w k xs = xs
row_nodes as_cdata t w k xs = lone (cdata (text_of t))
row_nodes (child name) t w k xs = lone (wrapped t w name k xs)
row_nodes (filled_child name) t w k xs = if is_hollow t then no_nodes else lone (wrapped t w name k xs)
row_nodes (children name) t w k xs = xs
row_nodes (either_child m n) t w k xs = lone (wrapped t w m k xs)
row_nodes the_version t w k xs = no_nodes

-- The nodes between the tags of the element that a tree is written as.
unfoldable mutual
  pub nodes_of : Tree → SpecVersion → Kind → Nodes
  nodes_of absent w k = no_nodes
  nodes_of (text s) w k = text_nodes k s
  nodes_of (number n) w k = lone (characters (text_of (number n)))
  nodes_of (boolean b) w k = lone (characters (text_of (boolean b)))
  nodes_of (items ts) w k = items_nodes ts w (items_of k ts) (held_kind k)
  nodes_of (fields n ts) w k = signed_in k n (fields_nodes ts w (rows n))

  pub items_nodes : Trees → SpecVersion → ItemSpelling → Kind → Nodes
  items_nodes none w how k = no_nodes
  items_nodes (more t ts) w how k = (if is_passed_over t then no_nodes else lone (item_node how t w k (nodes_of t w k))) ⊕ items_nodes ts w how k

  pub fields_nodes : Trees → SpecVersion → List Row → Nodes
  fields_nodes none w rs = no_nodes
  fields_nodes (more t ts) w [] = no_nodes
  fields_nodes (more t ts) w (r ∷ rs) = (if knows r.since w && not (is_absent t) then row_nodes r.xml t w r.kind (nodes_of t w r.kind) else no_nodes) ⊕ fields_nodes ts w rs

-- a value by itself under a name
abbrev pub spelled : Tree → SpecVersion → List ℕ → Kind → Node
spelled t w tag k = wrapped t w tag k (nodes_of t w k)

-- The element of a whole bill.
abbrev pub root : Tree → SpecVersion → Node
root t w = element (plain_name (codes "bom")) (attributes_of t w a_bill) (record { default = Some (namespace w) }) (nodes_of t w a_bill)

abbrev pub xml_document : Tree → SpecVersion → List XmlEvent
xml_document t w = document (root t w)
