-- What a version keeps of a bill, and which bills it can hold.
use Rattle.std.specs.Prelude.{ℕ, List, [], ◌∷◌, Bool, true, not, ◌&&◌, ◌||◌, if◌then◌else◌}
use Rattle.cdx_models.specs.declared.bom.SpecVersion.{SpecVersion}
use Rattle.cdx_models.specs.declared.bom.SpecVersion.TheVariants.{V1_3, V1_4, V1_5}
use Rattle.cdx_models.specs.Versions.{knows, is_first, label}
use Rattle.cdx_models.specs.Trees.{Name, service_data, tools_object, Tree, absent, text, number, boolean, items, fields, Trees, none, more, is_absent, field}
use Rattle.cdx_schema.specs.Kinds.{Kind, a_version, a_tools, an_entry, Need, optional, required, required_first, else_empty, Row}
use Rattle.cdx_schema.specs.Held.{held_kind}
use Rattle.cdx_schema.specs.Table.{rows}
use Rattle.cdx_schema.specs.Depth.{Depth, inside, name_too_deep}

-- The label becomes the one given.
abbrev pub kept_text : SpecVersion → Kind → List ℕ → Tree
kept_text l a_version s = text (label l)
kept_text l _ s = text s

-- Before 1.5 a tools object becomes the empty list, and a flow its classification.
abbrev pub before_1_5 : Kind → Name → Trees → Tree
before_1_5 a_tools tools_object ts = items none
before_1_5 an_entry service_data ts = field 2 ts
before_1_5 _ n ts = fields n ts

abbrev pub kept_record : SpecVersion → Kind → Name → Trees → Tree
kept_record V1_3 k n ts = before_1_5 k n ts
kept_record V1_4 k n ts = before_1_5 k n ts
kept_record V1_5 k n ts = fields n ts

-- What version w keeps of a tree of a kind, under the label l.
unfoldable mutual
  pub kept : SpecVersion → SpecVersion → Tree → Kind → Tree
  kept w l absent k = absent
  kept w l (text s) k = kept_text l k s
  kept w l (number n) k = number n
  kept w l (boolean b) k = boolean b
  kept w l (items ts) k = items (items_kept w l ts (held_kind k))
  kept w l (fields n ts) k = kept_record w k n (rows_kept w l ts (rows n))

  pub items_kept : SpecVersion → SpecVersion → Trees → Kind → Trees
  items_kept w l none k = none
  items_kept w l (more t ts) k = more (kept w l t k) (items_kept w l ts k)

  -- A field whose row the version doesn't know is dropped.
  pub rows_kept : SpecVersion → SpecVersion → Trees → List Row → Trees
  rows_kept w l none rs = none
  rows_kept w l (more t ts) [] = none
  rows_kept w l (more t ts) (r ∷ rs) = more (if knows r.since w then kept w l t r.kind else absent) (rows_kept w l ts rs)

abbrev pub keep : SpecVersion → Tree → Kind → Tree
keep w t k = kept w w t k

-- ---- what a version can hold

abbrev pub is_there : Need → Tree → Bool
is_there optional t = true
is_there required t = true
is_there required_first t = not (is_absent t)
is_there else_empty t = true

-- Whether each component has a version, those in tools excepted.
unfoldable mutual
  pub has_versions : Tree → Kind → Bool
  has_versions absent k = true
  has_versions (text s) k = true
  has_versions (number n) k = true
  has_versions (boolean b) k = true
  has_versions (items ts) k = items_have_versions ts (held_kind k)
  has_versions (fields n ts) a_tools = true
  has_versions (fields n ts) k = rows_have_versions ts (rows n)

  pub items_have_versions : Trees → Kind → Bool
  items_have_versions none k = true
  items_have_versions (more t ts) k = has_versions t k && items_have_versions ts k

  pub rows_have_versions : Trees → List Row → Bool
  rows_have_versions none rs = true
  rows_have_versions (more t ts) [] = true
  rows_have_versions (more t ts) (r ∷ rs) = is_there r.need t && has_versions t r.kind && rows_have_versions ts rs

abbrev pub fits : SpecVersion → Tree → Kind → Bool
fits w t k = not (is_first w) || has_versions t k

-- No component stands inside 32 components, and no service inside 32 services.
unfoldable mutual
  pub is_shallow : Tree → Depth → Bool
  is_shallow absent d = true
  is_shallow (text s) d = true
  is_shallow (number n) d = true
  is_shallow (boolean b) d = true
  is_shallow (items ts) d = are_shallow ts d
  is_shallow (fields n ts) d = not (name_too_deep n d) && are_shallow ts (inside n d)

  pub are_shallow : Trees → Depth → Bool
  are_shallow none d = true
  are_shallow (more t ts) d = is_shallow t d && are_shallow ts d
