-- The JSON value that a tree is written as.
use Rattle.std.specs.Prelude.{List, [], ◌∷◌, Bool, false, not, ◌&&◌, if◌then◌else◌, codes}
use Rattle.serde_json.specs.Data.{unsigned, Data, Items, no_items, item, Members, no_members, put}
use Rattle.serde_json.specs.Data as json
use Rattle.cdx_models.specs.declared.bom.SpecVersion.{SpecVersion}
use Rattle.cdx_models.specs.Versions.{knows}
use Rattle.cdx_models.specs.Trees.{Name, license, bill, Tree, absent, text, number, boolean, items, fields, Trees, none, more, is_absent}
use Rattle.cdx_schema.specs.Kinds.{Kind, a_license_choice, Member, member, merged, Need, else_empty, Row}
use Rattle.cdx_schema.specs.Held.{held_kind}
use Rattle.cdx_schema.specs.Table.{rows}

-- An empty list that stands for nothing isn't written.
abbrev pub is_written : Need → Tree → Bool
is_written else_empty (items none) = false
is_written n t = not (is_absent t)

abbrev pub is_spelled : Row → Tree → SpecVersion → Bool
is_spelled r t w = knows r.since w && is_written r.need t

abbrev pub set_member : Member → Data → (Members → Members) → Members → Members
set_member (member name) x own ms = put name x ms
set_member merged x own ms = own ms

-- what stands in the object before the rows
abbrev pub heading : Name → Members
heading bill = put (codes "bomFormat") (json.string (codes "CycloneDX")) no_members
heading _ = no_members

-- As one of several licenses, a license is the one member of an object.
abbrev pub in_choice : Kind → Name → Data → Data
in_choice a_license_choice license x = json.object (json.member (codes "license") x no_members)
in_choice _ n x = x

unfoldable mutual
  pub jspell : Tree → SpecVersion → Kind → Data
  jspell absent w k = json.null
  jspell (text s) w k = json.string s
  jspell (number n) w k = json.number (unsigned n)
  jspell (boolean b) w k = json.boolean b
  jspell (items ts) w k = json.array (items_spelled ts w (held_kind k))
  jspell (fields n ts) w k = in_choice k n (json.object (members_spelled ts w (rows n) (heading n)))

  pub items_spelled : Trees → SpecVersion → Kind → Items
  items_spelled none w k = no_items
  items_spelled (more t ts) w k = item (jspell t w k) (items_spelled ts w k)

  -- the fields of the rows, set one after the other
  pub members_spelled : Trees → SpecVersion → List Row → Members → Members
  members_spelled none w rs ms = ms
  members_spelled (more t ts) w [] ms = ms
  members_spelled (more t ts) w (r ∷ rs) ms = members_spelled ts w rs (if is_spelled r t w then set_member r.json (jspell t w r.kind) (own_members t w) ms else ms)

  -- a record's members set in the object around it
  pub own_members : Tree → SpecVersion → Members → Members
  own_members (fields n ts) w ms = members_spelled ts w (rows n) ms
  own_members absent w ms = ms
  own_members (text s) w ms = ms
  own_members (number n) w ms = ms
  own_members (boolean b) w ms = ms
  own_members (items ts) w ms = ms
