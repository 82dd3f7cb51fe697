-- What an element denotes, or its first fault.
use Rattle.std.specs.Prelude.{ℕ, suc, ◌+◌, List, [], ◌∷◌, ◌++◌, reverse, Bool, false, not, ◌&&◌, if◌then◌else◌, Option, Some, None, Result, Ok, Err, codes}
use Rattle.std.specs.Str.{bytes_eq, trim}
use Rattle.cdx_models.specs.declared.bom.SpecVersion.{SpecVersion}
use Rattle.cdx_models.specs.declared.bom.SpecVersion.TheVariants.{V1_3, V1_4, V1_5}
use Rattle.cdx_models.specs.Versions.{knows, label, namespace}
use Rattle.cdx_models.specs.Trees.{Name, attached_text, spdx_id, license_name, license, expression, signer, signers, chain, tool, tools_object, classification, service_data, bill, Tree, absent, text, number, items, fields, Trees, none, more, one, two, ◌⧺◌, is_absent, field, with_field}
use Rattle.cdx_schema.specs.Kinds.{Lists, services, components, Kind, a_text, a_boolean, a_number, a_version, a_list, a_record, a_reference, a_license_choice, a_license_identifier, a_tools, a_data, an_entry, a_signature, a_bill, Rule, lax, strict, passing, Spelled, attribute, attribute_or, content, one_text, as_cdata, child, filled_child, children, either_child, the_version, Need, required, else_empty, Row}
use Rattle.cdx_schema.specs.Table.{rows, rule, list}
use Rattle.cdx_schema.specs.Results.{◌>>=◌}
use Rattle.cdx_events.specs.declared.event.EventKind.{EventKind}
use Rattle.cdx_events.specs.declared.event.EventKind.TheVariants as kinds
use Rattle.cdx_models.specs.declared.errors.XmlReadError.{XmlReadError}
use Rattle.cdx_schema.specs.Faults.{unexpected, lacking, unreadable, namespaced, nested}
use Rattle.cdx_schema.specs.Depth.{Depth, top, inside, is_too_deep}
use Rattle.cdx_models.specs.Entries.{entry_of}
use Rattle.cdx_schema.specs.Held.{held_kind}
use Rattle.cdx_schema.specs.JsonReading.{is_required}
use Rattle.cdx_events.specs.declared.name.OwnedAttribute.{OwnedAttribute}
use Rattle.cdx_events.specs.Nodes.{Node, characters, cdata, element, Nodes, no_nodes, node}
use Rattle.cdx_schema.specs.Nodes.{places, places_of}
use Rattle.cdx_schema.specs.XmlTexts.{boolean_of, number_of, boolean_tree, tree_of_text, type_name}

-- How an element is read: in a version, as a kind, at a place, at a depth.
abbrev pub ElementReading : Type 0
ElementReading = SpecVersion → Kind → ℕ → Depth → Result Tree XmlReadError

-- ---- what the nodes of an element are read by

-- What becomes of a child that is read: it is set, and the last counts; it is set, and a second one is refused; it is appended.
pub data Place : Type 0 where
  last once all : Place

-- A child of this name is read as this kind, into the field of this number, where the version knows it.
pub record Child : Type 0 where
  pub name : List ℕ
  pub since : SpecVersion
  pub kind : Kind
  pub field : ℕ
  pub place : Place

-- the rule for what no child names, and the children
pub record Plan : Type 0 where
  pub rule : Rule
  pub children : List Child

abbrev pub row_children : ℕ → Row → List Child
row_children i r = by r.xml
  where
    by : Spelled → List Child
    by (child name) = record { name = name; since = r.since; kind = r.kind; field = i; place = last } ∷ []
    by (filled_child name) = record { name = name; since = r.since; kind = r.kind; field = i; place = last } ∷ []
    by (children name) = record { name = name; since = r.since; kind = held_kind r.kind; field = i; place = all } ∷ []
    by (either_child m n) = record { name = m; since = r.since; kind = r.kind; field = i; place = once } ∷ record { name = n; since = r.since; kind = r.kind; field = i; place = once } ∷ []
    by _ = []

-- the children of the rows, the first of which is the i-th
abbrev pub children_from : ℕ → List Row → List Child
children_from i [] = []
children_from i (r ∷ rs) = row_children i r ++ children_from (suc i) rs

abbrev pub record_plan : Name → Plan
record_plan n = record { rule = rule n; children = children_from 0 (rows n) }

abbrev pub items_plan : Lists → Plan
items_plan l = record { rule = (list l).rule; children = record { name = (list l).name; since = V1_3; kind = (list l).kind; field = 0; place = all } ∷ [] }

-- either a license or an expression
abbrev pub choice_plan : Lists → Plan
choice_plan l = record { rule = (list l).rule; children = record { name = codes "license"; since = V1_3; kind = a_license_choice; field = 0; place = all } ∷ record { name = codes "expression"; since = V1_3; kind = a_license_choice; field = 0; place = all } ∷ [] }

abbrev pub plan_of_list : Lists → Plan
plan_of_list l = by (list l).kind
  where
    by : Kind → Plan
    by a_license_choice = choice_plan l
    by _ = items_plan l

abbrev pub tools_plan : Plan
tools_plan = record { rule = strict; children = record { name = codes "tool"; since = V1_3; kind = a_record tool; field = 0; place = all } ∷ record { name = codes "services"; since = V1_5; kind = a_list services; field = 1; place = last } ∷ record { name = codes "components"; since = V1_5; kind = a_list components; field = 2; place = last } ∷ [] }

abbrev pub data_plan : Plan
data_plan = record { rule = passing; children = record { name = codes "classification"; since = V1_3; kind = a_record classification; field = 0; place = all } ∷ record { name = codes "dataflow"; since = V1_5; kind = an_entry; field = 1; place = all } ∷ [] }

abbrev pub signature_plan : Plan
signature_plan = record { rule = strict; children = record { name = codes "signers"; since = V1_3; kind = a_record signers; field = 0; place = last } ∷ record { name = codes "chain"; since = V1_3; kind = a_record chain; field = 0; place = last } ∷ record { name = codes "algorithm"; since = V1_3; kind = a_text; field = 1; place = last } ∷ record { name = codes "value"; since = V1_3; kind = a_text; field = 2; place = last } ∷ [] }

abbrev pub no_plan : Plan
no_plan = record { rule = strict; children = [] }

-- the first child of the name that the version knows
abbrev pub find_child : SpecVersion → List ℕ → List Child → Option Child
find_child v s [] = None
find_child v s (c ∷ cs) = if bytes_eq s c.name && knows c.since v then Some c else find_child v s cs

-- ---- one node

abbrev pub appended : Tree → Tree → Tree
appended (items ts) t = items (ts ⧺ one t)
appended _ t = items (one t)

abbrev pub stored : Place → ℕ → Tree → Trees → Trees
stored last i t ts = with_field i t ts
stored once i t ts = with_field i t ts
stored all i t ts = with_field i (appended (field i ts) t) ts

-- A text between children.
abbrev pub stray : Rule → EventKind → List ℕ → ℕ → Trees → Result Trees XmlReadError
stray passing s around p ts = Ok ts
stray lax s around p ts = Err (unexpected p around s)
stray strict s around p ts = Err (unexpected p around s)

-- A child that no row has.
abbrev pub unknown : Rule → List ℕ → ℕ → Trees → Result Trees XmlReadError
unknown strict around p ts = Err (unexpected p around kinds.StartElement)
unknown lax around p ts = Ok ts
unknown passing around p ts = Ok ts

abbrev pub is_second : Place → Tree → Bool
is_second once t = not (is_absent t)
is_second last t = false
is_second all t = false

abbrev pub child_read_into : Option Child → Rule → ElementReading → List ℕ → SpecVersion → Depth → ℕ → Trees → Result Trees XmlReadError
child_read_into None r read around v d p ts = unknown r around p ts
child_read_into (Some c) r read around v d p ts = if is_second c.place (field c.field ts) then Err (unexpected p around kinds.StartElement) else (do
  t ← read v c.kind p d
  Ok (stored c.place c.field t ts))

-- What one node, at place p in the element around it, makes of the fields that were read before it.
abbrev pub node_read : Node → ElementReading → Plan → List ℕ → SpecVersion → Depth → ℕ → Trees → Result Trees XmlReadError
node_read (characters s) read plan around v d p ts = stray plan.rule kinds.Characters around p ts
node_read (cdata s) read plan around v d p ts = stray plan.rule kinds.CData around p ts
node_read (element n as' default xs) read plan around v d p ts = child_read_into (find_child v n.local_name plan.children) plan.rule read around v d p ts

-- ---- attributes

abbrev pub find_attribute : List ℕ → List OwnedAttribute → Option (List ℕ)
find_attribute s [] = None
find_attribute s (a ∷ as') = if bytes_eq a.name.local_name s then Some a.value else find_attribute s as'

abbrev pub parsed : Option Tree → ℕ → List ℕ → List ℕ → Kind → Result Tree XmlReadError
parsed None p name s k = Err (unreadable p name s (type_name k))
parsed (Some t) p name s k = Ok t

abbrev pub attribute_read : Option (List ℕ) → List ℕ → Row → SpecVersion → List ℕ → ℕ → Result Tree XmlReadError
attribute_read None name r v around p = if is_required r.need v then Err (lacking p around name) else Ok absent
attribute_read (Some s) name r v around p = parsed (tree_of_text r.kind s) p name s r.kind

abbrev pub attribute_or_read : Option (List ℕ) → List ℕ → ℕ → Row → ℕ → Result Tree XmlReadError
attribute_or_read None name n r p = Ok (number n)
attribute_or_read (Some s) name n r p = parsed (tree_of_text r.kind s) p name s r.kind

abbrev pub row_attribute : Row → List OwnedAttribute → SpecVersion → List ℕ → ℕ → Result Tree XmlReadError
row_attribute r as' v around p = by r.xml
  where
    by : Spelled → Result Tree XmlReadError
    by (attribute name) = if knows r.since v then attribute_read (find_attribute name as') name r v around p else Ok absent
    by (attribute_or name n) = if knows r.since v then attribute_or_read (find_attribute name as') name n r p else Ok absent
    by the_version = if knows r.since v then Ok (text (label v)) else Ok absent
    by _ = Ok absent

-- The attributes of the rows that the version knows, in row order; every other field is absent as yet.
unfoldable pub attributes_read : List Row → List OwnedAttribute → SpecVersion → List ℕ → ℕ → Result Trees XmlReadError
attributes_read [] as' v around p = Ok none
attributes_read (r ∷ rs) as' v around p = do
  t ← row_attribute r as' v around p
  ts ← attributes_read rs as' v around p
  Ok (more t ts)

-- The first attribute of a name counts, in an attached text the last.
abbrev pub in_force : Name → List OwnedAttribute → List OwnedAttribute
in_force attached_text as' = reverse as'
in_force _ as' = as'

-- ---- content

-- The second node of an element that holds one text.
abbrev pub after_text : {T : Type 0} → T → Nodes → List ℕ → ℕ → Result T XmlReadError
after_text s no_nodes around p = Ok s
after_text s (node (characters t) xs) around p = Err (unexpected p around kinds.Characters)
after_text s (node (cdata t) xs) around p = Err (unexpected p around kinds.CData)
after_text s (node (element n as' default ys) xs) around p = Err (unexpected p around kinds.StartElement)

-- Exactly one text, or, where `none` is given, no text at all.
abbrev pub text_in : Result (List ℕ) XmlReadError → Nodes → List ℕ → ℕ → Result (List ℕ) XmlReadError
text_in empty no_nodes around p = empty
text_in empty (node (characters s) xs) around p = after_text s xs around (suc p)
text_in empty (node (cdata s) xs) around p = after_text s xs around (suc p)
text_in empty (node (element n as' default ys) xs) around p = Err (unexpected p around kinds.StartElement)

-- where p is the place of the first node, no text is the empty text
abbrev pub simple_text : Nodes → List ℕ → ℕ → Result (List ℕ) XmlReadError
simple_text xs around p = text_in (Ok []) xs around p

-- no text is refused at the element's end
abbrev pub exact_text : Nodes → List ℕ → ℕ → Result (List ℕ) XmlReadError
exact_text xs around p = text_in (Err (unexpected p around kinds.EndElement)) xs around p

-- Which field the content is, and whether it is exactly one text.
pub data TextContent : Type 0 where
  no_content : TextContent
  any_text one_text_alone : ℕ → TextContent

abbrev pub or_later : Spelled → ℕ → TextContent → TextContent
or_later content i c = any_text i
or_later as_cdata i c = any_text i
or_later one_text i c = one_text_alone i
or_later _ i c = c

abbrev pub content_from : ℕ → List Row → TextContent
content_from i [] = no_content
content_from i (r ∷ rs) = or_later r.xml i (content_from (suc i) rs)

-- ---- the element's end

-- the name of a child that has to be there
abbrev pub name_owed : Spelled → Option (List ℕ)
name_owed (child name) = Some name
name_owed (filled_child name) = Some name
name_owed (either_child m n) = Some (m ++ codes " or " ++ n)
name_owed _ = None

abbrev pub lacks : Option (List ℕ) → Row → Tree → SpecVersion → Bool
lacks None r t v = false
lacks (Some name) r t v = is_required r.need v && (knows r.since v && is_absent t)

abbrev pub lacking_row : Option (List ℕ) → List ℕ → ℕ → Result Trees XmlReadError → Result Trees XmlReadError
lacking_row None around p rest = rest
lacking_row (Some name) around p rest = Err (lacking p around name)

-- Children that aren't there are the empty list where the list isn't optional.
abbrev pub filled : Row → Tree → Tree
filled r t = by r.xml r.need t
  where
    by : Spelled → Need → Tree → Tree
    by (children name) required absent = items none
    by (children name) else_empty absent = items none
    by _ n u = u

-- The first required child that was never read is missed at place p.
unfoldable pub ended : List Row → Trees → SpecVersion → List ℕ → ℕ → Result Trees XmlReadError
ended [] ts v around p = Ok none
ended (r ∷ rs) none v around p = Ok none
ended (r ∷ rs) (more t ts) v around p = if lacks (name_owed r.xml) r t v then lacking_row (name_owed r.xml) around p (Ok none) else (do
  us ← ended rs ts v around p
  Ok (more (filled r t) us))

-- ---- elements

-- An element that is read: its parts, and how its nodes are read by a plan into fields.
pub record Element : Type 0 where
  pub name : List ℕ
  pub attributes : List OwnedAttribute
  pub namespace : Option (List ℕ)
  pub nodes : Nodes
  pub start : ℕ
  pub read : Plan → SpecVersion → Depth → Trees → Result Trees XmlReadError

abbrev pub end_of : Element → ℕ
end_of e = suc (e.start + places_of e.nodes)

abbrev pub text_read : Element → Result (List ℕ) XmlReadError
text_read e = simple_text e.nodes e.name (suc e.start)

abbrev pub boolean_read : Element → Result Tree XmlReadError
boolean_read e = do
  s ← text_read e
  parsed (boolean_tree (boolean_of s)) (end_of e) e.name s a_boolean

-- A number is one text, trimmed.
abbrev pub number_alone : Option ℕ → List ℕ → Nodes → List ℕ → ℕ → Result Tree XmlReadError
number_alone None s xs around p = Err (unreadable p around s (codes "u32"))
number_alone (Some n) s xs around p = do
  u ← after_text s xs around (suc p)
  Ok (number n)

abbrev pub number_in : Nodes → List ℕ → ℕ → Result Tree XmlReadError
number_in no_nodes around p = Err (unexpected p around kinds.EndElement)
number_in (node (characters s) xs) around p = number_alone (number_of (trim s)) s xs around p
number_in (node (cdata s) xs) around p = number_alone (number_of (trim s)) s xs around p
number_in (node (element n as' default ys) xs) around p = Err (unexpected p around kinds.StartElement)

abbrev pub list_of : Tree → Tree
list_of absent = items none
list_of t = t

abbrev pub list_read : Element → Lists → SpecVersion → Depth → Result Tree XmlReadError
list_read e l v d = do
  ts ← e.read (plan_of_list l) v d (one absent)
  Ok (list_of (field 0 ts))

-- The fields after the element's content.
abbrev pub content_fields : TextContent → Element → Name → Trees → SpecVersion → Depth → Result Trees XmlReadError
content_fields no_content e n ts v d = e.read (record_plan n) v d ts
content_fields (any_text i) e n ts v d = do
  s ← text_read e
  Ok (with_field i (text s) ts)
content_fields (one_text_alone i) e n ts v d = do
  s ← exact_text e.nodes e.name (suc e.start)
  Ok (with_field i (text s) ts)

-- The record without its last step, the one on missing children.
abbrev pub record_so_far : Element → Name → SpecVersion → Depth → Result Trees XmlReadError
record_so_far e n v d = do
  ts ← attributes_read (rows n) (in_force n e.attributes) v e.name e.start
  content_fields (content_from 0 (rows n)) e n ts v d

abbrev pub record_denoted : Element → Name → SpecVersion → Depth → Result Tree XmlReadError
record_denoted e n v d = do
  ts ← record_so_far e n v (inside n d)
  us ← ended (rows n) ts v e.name (end_of e)
  Ok (fields n us)

-- ---- forms of their own

abbrev pub reference_read : Element → SpecVersion → Depth → Result Tree XmlReadError
reference_read e v d = by (find_attribute (codes "ref") e.attributes)
  where
    by : Option (List ℕ) → Result Tree XmlReadError
    by None = Err (lacking e.start e.name (codes "ref"))
    by (Some s) = do
      ts ← e.read no_plan v d none
      Ok (text s)

abbrev pub choice_read : Element → SpecVersion → Depth → Result Tree XmlReadError
choice_read e v d = if bytes_eq e.name (codes "license") then record_denoted e license v d else (if bytes_eq e.name (codes "expression") then record_denoted e expression v d else Err (lacking e.start e.name (codes "license or expression")))

abbrev pub identifier_read : Element → SpecVersion → Depth → Result Tree XmlReadError
identifier_read e v d = if bytes_eq e.name (codes "id") then record_denoted e spdx_id v d else (if bytes_eq e.name (codes "name") then record_denoted e license_name v d else Err (lacking e.start e.name (codes "id or name")))

abbrev pub tools_object_of : SpecVersion → Trees → Tree
tools_object_of V1_3 ts = items none
tools_object_of V1_4 ts = items none
tools_object_of V1_5 ts = fields tools_object (two (field 1 ts) (field 2 ts))

-- Tools are a list where there is a tool, and nothing else may stand beside one.
abbrev pub tools_of : Element → SpecVersion → Trees → Result Tree XmlReadError
tools_of e v ts = by (field 0 ts)
  where
    by : Tree → Result Tree XmlReadError
    by absent = Ok (tools_object_of v ts)
    by t = if is_absent (field 1 ts) && is_absent (field 2 ts) then Ok t else Err (lacking (end_of e) e.name (codes "tool array or services & components"))

-- The flows where there is one, else the classifications.
abbrev pub data_of : Trees → Tree
data_of ts = by (field 1 ts)
  where
    by : Tree → Tree
    by absent = list_of (field 0 ts)
    by t = t

abbrev pub signature_of : Element → SpecVersion → Trees → Result Tree XmlReadError
signature_of e v ts = by (field 0 ts)
  where
    by : Tree → Result Tree XmlReadError
    by absent = do
      us ← ended (rows signer) (two (field 1 ts) (field 2 ts)) v e.name (end_of e)
      Ok (fields signer us)
    by t = Ok t

abbrev pub tools_read : Element → SpecVersion → Depth → Result Tree XmlReadError
tools_read e v d = do
  ts ← e.read tools_plan v d (more absent (two absent absent))
  tools_of e v ts

abbrev pub data_read : Element → SpecVersion → Depth → Result Tree XmlReadError
data_read e v d = do
  ts ← e.read data_plan v d (two absent absent)
  Ok (data_of ts)

abbrev pub signature_read : Element → SpecVersion → Depth → Result Tree XmlReadError
signature_read e v d = do
  ts ← e.read signature_plan v d (more absent (two absent absent))
  signature_of e v ts

abbrev pub in_namespace : Option (List ℕ) → List ℕ → Bool
in_namespace None s = false
in_namespace (Some t) s = bytes_eq t s

-- The root's name, then its namespace, then its content.
abbrev pub bill_read : Element → SpecVersion → Depth → Result Tree XmlReadError
bill_read e v d = if bytes_eq e.name (codes "bom") then (if in_namespace e.namespace (namespace v) then record_denoted e bill v d else Err (namespaced (namespace v) e.namespace)) else Err (unexpected e.start (codes "bom") kinds.StartElement)

abbrev pub kind_read : Element → SpecVersion → Kind → Depth → Result Tree XmlReadError
kind_read e v a_text d = do
  s ← text_read e
  Ok (text s)
kind_read e v a_boolean d = boolean_read e
kind_read e v a_number d = number_in e.nodes e.name (suc e.start)
kind_read e v a_version d = Err (unexpected e.start e.name kinds.StartElement)
kind_read e v (a_list l) d = list_read e l v d
kind_read e v (a_record n) d = if is_too_deep (a_record n) d then Err (nested e.start) else record_denoted e n v d
kind_read e v a_reference d = reference_read e v d
kind_read e v a_license_choice d = choice_read e v d
kind_read e v a_license_identifier d = identifier_read e v d
kind_read e v a_tools d = tools_read e v d
kind_read e v a_data d = data_read e v d
kind_read e v an_entry d = do
  t ← record_denoted e service_data v d
  Ok (entry_of t)
kind_read e v a_signature d = signature_read e v d
kind_read e v a_bill d = bill_read e v d

unfoldable mutual
  pub xread : Node → ElementReading
  xread (characters s) v k p d = Err (unexpected p [] kinds.Characters)
  xread (cdata s) v k p d = Err (unexpected p [] kinds.CData)
  xread (element n as' default xs) v k p d = kind_read (record { name = n.local_name; attributes = as'; namespace = default.default; nodes = xs; start = p; read = λ plan w e ts. nodes_read xs plan n.local_name w e (suc p) ts }) v k d

  -- the nodes in order, the first of which has place p
  pub nodes_read : Nodes → Plan → List ℕ → SpecVersion → Depth → ℕ → Trees → Result Trees XmlReadError
  nodes_read no_nodes plan around v d p ts = Ok ts
  nodes_read (node x xs) plan around v d p ts = do
    us ← node_read x (xread x) plan around v d p ts
    nodes_read xs plan around v d (p + places x) us

-- What a document denotes in a version, or its first fault: its root is at place 1.
abbrev pub xml_denotes : Node → SpecVersion → Result Tree XmlReadError
xml_denotes x v = xread x v a_bill 1 top
