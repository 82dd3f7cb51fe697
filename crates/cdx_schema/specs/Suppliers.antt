-- Which suppliers the second trip through XML takes.
use Rattle.std.specs.Prelude.{List, [], ◌∷◌, Bool, true, false, ◌&&◌, if◌then◌else◌}
use Rattle.cdx_models.specs.Trees.{Name, entity, Tree, absent, text, number, boolean, items, fields, Trees, none, more}
use Rattle.cdx_schema.specs.Kinds.{Kind, a_record, Spelled, filled_child, Row}
use Rattle.cdx_schema.specs.Table.{rows}
use Rattle.cdx_schema.specs.Trips.{is_hollow}

abbrev pub is_entity : Name → Bool
is_entity entity = true
is_entity _ = false

abbrev pub is_entity_kind : Kind → Bool
is_entity_kind (a_record n) = is_entity n
is_entity_kind _ = false

-- An entity that isn't written without children: only a component's supplier is one.
abbrev pub is_supplier : Spelled → Kind → Bool
is_supplier (filled_child name) k = is_entity_kind k
is_supplier _ k = false

-- A tree less the suppliers of components that have neither a name, nor urls, nor contacts.
unfoldable mutual
  pub unsupplied : Tree → Tree
  unsupplied absent = absent
  unsupplied (text s) = text s
  unsupplied (number n) = number n
  unsupplied (boolean b) = boolean b
  unsupplied (items ts) = items (items_unsupplied ts)
  unsupplied (fields n ts) = fields n (rows_unsupplied ts (rows n))

  pub items_unsupplied : Trees → Trees
  items_unsupplied none = none
  items_unsupplied (more t ts) = more (unsupplied t) (items_unsupplied ts)

  pub rows_unsupplied : Trees → List Row → Trees
  rows_unsupplied none rs = none
  rows_unsupplied (more t ts) [] = none
  rows_unsupplied (more t ts) (r ∷ rs) = more (if is_supplier r.xml r.kind && is_hollow t then absent else unsupplied t) (rows_unsupplied ts rs)
