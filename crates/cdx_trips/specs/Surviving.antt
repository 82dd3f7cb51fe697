-- Of which trees a trip through XML takes nothing.
use Rattle.std.specs.Prelude.{List, [], ◌∷◌, Bool, true, false, not, ◌&&◌, if◌then◌else◌}
use Rattle.cdx_models.specs.Trees.{Name, contact, entity, patch, issue, component, pedigree, service, tools_object, metadata, bill, Tree, absent, text, number, boolean, items, fields, Trees, none, more}
use Rattle.cdx_schema.specs.Kinds.{Lists, contacts, authors, patches, resolved, components, services, Kind, a_list, a_record, a_tools, a_bill, Need, optional, Spelled, filled_child, children, Row}
use Rattle.cdx_schema.specs.Held.{held_kind}
use Rattle.cdx_schema.specs.Table.{rows}
use Rattle.cdx_schema.specs.Trips.{is_hollow, is_passed_over}

-- ---- where a trip may find something to take

abbrev pub record_may_lose : Name → Bool
record_may_lose contact = true
record_may_lose entity = true
record_may_lose issue = true
record_may_lose patch = true
record_may_lose pedigree = true
record_may_lose component = true
record_may_lose service = true
record_may_lose tools_object = true
record_may_lose metadata = true
record_may_lose bill = true
record_may_lose _ = false

abbrev pub list_may_lose : Lists → Bool
list_may_lose contacts = true
list_may_lose authors = true
list_may_lose resolved = true
list_may_lose patches = true
list_may_lose components = true
list_may_lose services = true
list_may_lose _ = false

abbrev pub may_lose : Kind → Bool
may_lose (a_list l) = list_may_lose l
may_lose (a_record n) = record_may_lose n
may_lose a_tools = true
may_lose a_bill = true
may_lose _ = false

-- ---- what is written

-- A list without items that needn't be there.
abbrev pub is_nothing : Need → Tree → Bool
is_nothing optional (items none) = true
is_nothing n t = false

-- Whether a field that is there is written: a child that asks for one of its own has one, and children aren't none.
abbrev pub is_written_as : Spelled → Need → Tree → Bool
is_written_as (filled_child name) n t = not (is_hollow t)
is_written_as (children name) n t = not (is_nothing n t)
is_written_as _ n t = true

-- An empty list of tools comes back as a tools object in 1.5.
abbrev pub comes_as_list : Kind → Trees → Bool
comes_as_list a_tools none = false
comes_as_list k ts = true

-- A trip takes nothing of the tree of a kind.
unfoldable mutual
  pub survives : Tree → Kind → Bool
  survives absent k = true
  survives (text s) k = true
  survives (number n) k = true
  survives (boolean b) k = true
  survives (items ts) k = comes_as_list k ts && items_survive ts (held_kind k)
  survives (fields n ts) k = rows_survive ts (rows n)

  pub items_survive : Trees → Kind → Bool
  items_survive none k = true
  items_survive (more t ts) k = (if may_lose k then not (is_passed_over t) && survives t k else true) && items_survive ts k

  pub rows_survive : Trees → List Row → Bool
  rows_survive none rs = true
  rows_survive (more t ts) [] = true
  rows_survive (more t ts) (r ∷ rs) = is_written_as r.xml r.need t && ((if may_lose r.kind then survives t r.kind else true) && rows_survive ts rs)
