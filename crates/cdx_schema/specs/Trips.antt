-- What trips through XML take of a bill, and which bills count as the same.
use Rattle.std.specs.Prelude.{ℕ, zero, suc, List, [], ◌∷◌, Bool, true, false, not, ◌&&◌, ◌||◌, if◌then◌else◌, ◌≡◌}
use Rattle.cdx_models.specs.declared.bom.SpecVersion.{SpecVersion}
use Rattle.cdx_models.specs.Trees.{contact, tools_object, Tree, absent, text, number, boolean, items, fields, Trees, none, more, two, is_absent}
use Rattle.cdx_schema.specs.Kinds.{Kind, a_tools, a_bill, Need, optional, Row, Spelled, attribute, attribute_or, content, one_text, as_cdata, child, filled_child, children, either_child, the_version}
use Rattle.cdx_schema.specs.Held.{held_kind}
use Rattle.cdx_schema.specs.Table.{rows}
use Rattle.cdx_models.specs.Versions.{lowest}
use Rattle.cdx_schema.specs.Keeping.{kept}

-- Whether the row stands as a child or as children in XML.
abbrev pub is_child : Spelled → Bool
is_child (attribute name) = false
is_child (attribute_or name n) = false
is_child content = false
is_child one_text = false
is_child as_cdata = false
is_child (child name) = true
is_child (filled_child name) = true
is_child (children name) = true
is_child (either_child m n) = true
is_child the_version = false

abbrev pub no_child : Trees → List Row → Bool
no_child none rs = true
no_child (more t ts) [] = true
no_child (more t ts) (r ∷ rs) = (not (is_child r.xml) || is_absent t) && no_child ts rs

-- A record is hollow where it would be an element without children.
unfoldable pub is_hollow : Tree → Bool
is_hollow (fields n ts) = no_child ts (rows n)
is_hollow _ = false

-- A hollow contact isn't written in a list.
abbrev pub is_passed_over : Tree → Bool
is_passed_over (fields contact ts) = is_hollow (fields contact ts)
is_passed_over _ = false

abbrev pub none_is_absent : Need → Tree → Tree
none_is_absent optional (items none) = absent
none_is_absent n t = t

-- a field after a trip: t before it, and u what the trip makes of t
abbrev pub field_after : Row → Tree → Tree → Tree
field_after r t u = by r.xml
  where
    by : Spelled → Tree
    by (filled_child name) = if is_hollow t then absent else u
    by (children name) = none_is_absent r.need u
    by _ = u

unfoldable mutual
  pub bare : Tree → Tree
  bare absent = absent
  bare (text s) = text s
  bare (number n) = number n
  bare (boolean b) = boolean b
  bare (items ts) = items (items_bare ts)
  bare (fields n ts) = fields n (rows_bare ts (rows n))

  pub items_bare : Trees → Trees
  items_bare none = none
  items_bare (more t ts) = if is_passed_over t then items_bare ts else more (bare t) (items_bare ts)

  pub rows_bare : Trees → List Row → Trees
  rows_bare none rs = none
  rows_bare (more t ts) [] = none
  rows_bare (more t ts) (r ∷ rs) = more (field_after r t (bare t)) (rows_bare ts rs)

-- ---- the same

abbrev pub list_settled : Kind → Trees → Tree
list_settled a_tools none = fields tools_object (two absent absent)
list_settled k ts = items ts

-- An empty tool list counts as a tools object without parts.
unfoldable mutual
  pub settled : Tree → Kind → Tree
  settled absent k = absent
  settled (text s) k = text s
  settled (number n) k = number n
  settled (boolean b) k = boolean b
  settled (items ts) k = list_settled k (items_settled ts (held_kind k))
  settled (fields n ts) k = fields n (rows_settled ts (rows n))

  pub items_settled : Trees → Kind → Trees
  items_settled none k = none
  items_settled (more t ts) k = more (settled t k) (items_settled ts k)

  pub rows_settled : Trees → List Row → Trees
  rows_settled none rs = none
  rows_settled (more t ts) [] = none
  rows_settled (more t ts) (r ∷ rs) = more (settled t r.kind) (rows_settled ts rs)

abbrev pub IsSame : Tree → Tree → Type 0
IsSame b c = settled b a_bill ≡ settled c a_bill

-- ---- roads

pub data Form : Type 0 where
  in_json in_xml : Form

pub record Hop : Type 0 where
  pub form : Form
  pub version : SpecVersion

-- the lowest version of the hops, the first of which has version v
abbrev pub lowest_of : SpecVersion → List Hop → SpecVersion
lowest_of v [] = v
lowest_of v (h ∷ hs) = lowest_of (lowest v h.version) hs

abbrev pub last_of : SpecVersion → List Hop → SpecVersion
last_of v [] = v
last_of v (h ∷ hs) = last_of h.version hs

-- as often as there are hops through XML, but no more than twice
abbrev pub trips : List Hop → ℕ → Tree → Tree
trips hs zero b = b
trips [] (suc n) b = b
trips (h ∷ hs) (suc n) b = elim h.form [ in_json ↦ trips hs (suc n) b | in_xml ↦ trips hs n (bare b) ]

-- The bill after a road of at least one hop: what the lowest version keeps, less what the trips take, under the last label.
abbrev pub after_road : Tree → Hop → List Hop → Tree
after_road b h hs = trips (h ∷ hs) 2 (kept (lowest_of h.version hs) (last_of h.version hs) b a_bill)
