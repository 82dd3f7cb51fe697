-- Documents without their empty texts.
use Rattle.std.specs.Prelude.{◌≡◌, ℕ, suc, ◌+◌, List, [], ◌∷◌, Bool, true, false, ◌||◌, ◌&&◌, if◌then◌else◌, Option, Some, None, Result, Ok, Err, codes}
use Rattle.std.specs.Str.{bytes_eq}
use Rattle.cdx_models.specs.declared.bom.SpecVersion.{SpecVersion}
use Rattle.cdx_models.specs.Trees.{Name, license, expression, spdx_id, license_name, service_data, bill, Tree, absent, text, number, boolean, items, fields, Trees, none, more}
use Rattle.cdx_schema.specs.Kinds.{Kind, a_list, a_record, a_reference, a_license_choice, a_license_identifier, a_tools, a_data, an_entry, a_signature, a_bill, Row, Spelled, one_text}
use Rattle.cdx_schema.specs.Table.{rows}
use Rattle.cdx_models.specs.declared.errors.XmlReadError.{XmlReadError}
use Rattle.cdx_events.specs.declared.event.EventKind.TheVariants as kinds
use Rattle.cdx_schema.specs.Faults.{unexpected}
use Rattle.cdx_events.specs.EmptyTexts.{without_empty, lean}
use Rattle.cdx_events.specs.Nodes.{Node, characters, cdata, element, Nodes, no_nodes, node, document}
use Rattle.cdx_schema.specs.Nodes.{places}
use Rattle.cdx_schema.specs.Depth.{top}
use Rattle.cdx_schema.specs.Membership.{HasShape}
use Rattle.cdx_schema.specs.Keeping.{keep, fits, is_shallow}
use Rattle.cdx_schema.specs.XmlSpelling.{root}
use Rattle.cdx_schema.specs.XmlReading.{xml_denotes, Plan, Child, find_child, plan_of_list, record_plan, tools_plan, data_plan, signature_plan, no_plan, TextContent, no_content, any_text, one_text_alone, content_from}

-- ---- the first element without content that has to have one text

abbrev pub earlier : Option XmlReadError → Option XmlReadError → Option XmlReadError
earlier None o = o
earlier (Some f) o = Some f

abbrev pub if_nothing : Nodes → XmlReadError → Option XmlReadError
if_nothing no_nodes f = Some f
if_nothing (node x xs) f = None

-- Where the record has a row that is exactly one text, the element itself; else the elements in it.
abbrev pub record_hole : TextContent → Name → SpecVersion → List ℕ → ℕ → Nodes → (Plan → Option XmlReadError) → Option XmlReadError
record_hole no_content n v tag p xs inside = inside (record_plan n)
record_hole (any_text i) n v tag p xs inside = None
record_hole (one_text_alone i) n v tag p xs inside = if_nothing xs (unexpected (suc p) tag kinds.EndElement)

abbrev pub kind_hole : Kind → SpecVersion → List ℕ → ℕ → Nodes → (Plan → Option XmlReadError) → Option XmlReadError
kind_hole (a_list l) v tag p xs inside = inside (plan_of_list l)
kind_hole (a_record n) v tag p xs inside = record_hole (content_from 0 (rows n)) n v tag p xs inside
kind_hole a_reference v tag p xs inside = inside no_plan
kind_hole a_license_choice v tag p xs inside = if bytes_eq tag (codes "license") then record_hole (content_from 0 (rows license)) license v tag p xs inside else record_hole (content_from 0 (rows expression)) expression v tag p xs inside
kind_hole a_license_identifier v tag p xs inside = if bytes_eq tag (codes "id") then record_hole (content_from 0 (rows spdx_id)) spdx_id v tag p xs inside else record_hole (content_from 0 (rows license_name)) license_name v tag p xs inside
kind_hole a_tools v tag p xs inside = inside tools_plan
kind_hole a_data v tag p xs inside = inside data_plan
kind_hole an_entry v tag p xs inside = record_hole (content_from 0 (rows service_data)) service_data v tag p xs inside
kind_hole a_signature v tag p xs inside = inside signature_plan
kind_hole a_bill v tag p xs inside = record_hole (content_from 0 (rows bill)) bill v tag p xs inside
kind_hole _ v tag p xs inside = None

abbrev pub child_hole : Option Child → (Kind → Option XmlReadError) → Option XmlReadError
child_hole None inside = None
child_hole (Some c) inside = inside c.kind

abbrev pub node_hole : Node → SpecVersion → (Kind → Option XmlReadError) → Plan → Option XmlReadError
node_hole (characters s) v inside plan = None
node_hole (cdata s) v inside plan = None
node_hole (element n as' default xs) v inside plan = child_hole (find_child v n.local_name plan.children) inside

-- In an element at place p that is read as a kind: Unexpected at the end of the first element that has to have one text and has none.
unfoldable mutual
  pub hole : Node → SpecVersion → ℕ → Kind → Option XmlReadError
  hole (characters s) v p k = None
  hole (cdata s) v p k = None
  hole (element n as' default xs) v p k = kind_hole k v n.local_name p xs (holes xs v (suc p))

  pub holes : Nodes → SpecVersion → ℕ → Plan → Option XmlReadError
  holes no_nodes v p plan = None
  holes (node x xs) v p plan = earlier (node_hole x v (hole x v p) plan) (holes xs v (p + places x) plan)

-- what is read, where nothing is amiss
abbrev pub unless : {A : Type 0} → Option XmlReadError → A → Result A XmlReadError
unless None x = Ok x
unless (Some f) x = Err f

-- ---- trees

abbrev pub is_one_text : Spelled → Bool
is_one_text one_text = true
is_one_text _ = false

abbrev pub is_empty_text : Tree → Bool
is_empty_text (text []) = true
is_empty_text _ = false

abbrev pub any_empty : Trees → List Row → Bool
any_empty none rs = false
any_empty (more t ts) [] = false
any_empty (more t ts) (r ∷ rs) = (is_one_text r.xml && is_empty_text t) || any_empty ts rs

-- An attached text, a license id or a license name is empty.
unfoldable mutual
  pub has_empty : Tree → Bool
  has_empty absent = false
  has_empty (text s) = false
  has_empty (number n) = false
  has_empty (boolean b) = false
  has_empty (items ts) = have_empty ts
  has_empty (fields n ts) = any_empty ts (rows n) || have_empty ts

  pub have_empty : Trees → Bool
  have_empty none = false
  have_empty (more t ts) = has_empty t || have_empty ts

-- ---- the law

-- The spelling of what a version keeps, without its empty texts, denotes the same where no attached text, license id or license name is empty.
-- Otherwise its first fault is at the end of the first of these that is empty.
abbrev pub DropsTexts : Type 0
DropsTexts = (b : Tree) (w : SpecVersion) → HasShape b a_bill → is_shallow b top ≡ true → fits w b a_bill ≡ true
    → (document (lean (root (keep w b a_bill) w)) ≡ without_empty (document (root (keep w b a_bill) w)))
    × (has_empty (keep w b a_bill) ≡ false → xml_denotes (lean (root (keep w b a_bill) w)) w ≡ xml_denotes (root (keep w b a_bill) w) w)
    × (has_empty (keep w b a_bill) ≡ true → (f : XmlReadError) × (hole (lean (root (keep w b a_bill) w)) w 1 a_bill ≡ Some f) × (xml_denotes (lean (root (keep w b a_bill) w)) w ≡ Err f))
