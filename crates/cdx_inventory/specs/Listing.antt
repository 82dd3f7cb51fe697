-- Every component of a bill, with its path.
use Rattle.std.specs.Prelude.{◌≡◌, ◌≢◌, ℕ, suc, ◌+◌, List, [], ◌∷◌, ◌++◌, map, filter, length, Bool, true, false, not, if◌then◌else◌, Option, Some, None, codes, AllPairs, Contains, ◌⊎◌}
use Rattle.cdx_models.specs.declared.errors.Step.{Step}
use Rattle.cdx_models.specs.declared.bom.SpecVersion.{SpecVersion}
use Rattle.cdx_models.specs.declared.bom.SpecVersion.TheVariants.{V1_3, V1_4, V1_5}
use Rattle.cdx_models.specs.Trees.{Name, component, Tree, absent, text, number, boolean, items, fields, Trees, none, more, field, fields_of}
use Rattle.cdx_schema.specs.Kinds.{Kind, a_bill, Row}
use Rattle.cdx_schema.specs.Held.{held_kind}
use Rattle.cdx_schema.specs.Table.{rows}
use Rattle.cdx_schema.specs.Faults.{to_member, to_item}
use Rattle.cdx_schema.specs.Keeping.{keep}
use Rattle.cdx_schema.specs.Laws.{HasBillShape}
use Rattle.cdx_ways.specs.Ways.{At, behind_step, behind_row, behind_choice, begins, found}

-- ---- the components

abbrev pub is_component : Name → Bool
is_component component = true
is_component _ = false

-- a component itself, before what stands inside it
abbrev pub itself : Name → Trees → List (At Tree)
itself n ts = if is_component n then ([], fields n ts) ∷ [] else []

-- The components of a tree of a kind, in the order of rows and items.
unfoldable mutual
  pub listed_in : Tree → Kind → List (At Tree)
  listed_in absent k = []
  listed_in (text s) k = []
  listed_in (number n) k = []
  listed_in (boolean b) k = []
  listed_in (items ts) k = items_listed ts (held_kind k) 0
  listed_in (fields n ts) k = itself n ts ++ behind_choice k n (rows_listed ts (rows n))

  pub items_listed : Trees → Kind → ℕ → List (At Tree)
  items_listed none k i = []
  items_listed (more t ts) k i = behind_step (to_item i) (listed_in t k) ++ items_listed ts k (suc i)

  pub rows_listed : Trees → List Row → List (At Tree)
  rows_listed none rs = []
  rows_listed (more t ts) [] = []
  rows_listed (more t ts) (r ∷ rs) = behind_row r.json (listed_in t r.kind) ++ rows_listed ts rs

-- The components of a bill, each with its path. A component comes before what stands inside it.
abbrev pub listed : Tree → List (At Tree)
listed b = listed_in b a_bill

-- ---- what a component is called

abbrev pub text_itself : Tree → List ℕ
text_itself (text s) = s
text_itself _ = []

abbrev pub text_if_there : Tree → Option (List ℕ)
text_if_there (text s) = Some s
text_if_there _ = None

-- the places of a component's rows
abbrev pub name_position : ℕ
name_position = 7

abbrev pub version_position : ℕ
version_position = 8

abbrev pub licenses_position : ℕ
licenses_position = 12

abbrev pub component_name : Tree → List ℕ
component_name c = text_itself (field name_position (fields_of c))

-- the version, where there is one
abbrev pub component_version : Tree → Option (List ℕ)
component_version c = text_if_there (field version_position (fields_of c))

-- ---- the laws

-- No two components have the same path, each path leads in the bill to its component, and nothing but components is
-- listed.
abbrev pub ListsPaths : Type 0
ListsPaths = (b : Tree) → HasBillShape b
    → AllPairs (λ x y. x.0 ≢ y.0) (listed b)
    × ((p : List Step) (c : Tree) → Contains (listed b) (p, c) → (found b a_bill p ≡ Some c) × ((ts : Trees) × (c ≡ fields component ts)))

-- The tree c stands somewhere in a tree.
abbrev mutual
  pub IsPartOf : Tree → Tree → Type 0
  IsPartOf c absent = c ≡ absent
  IsPartOf c (text s) = c ≡ text s
  IsPartOf c (number n) = c ≡ number n
  IsPartOf c (boolean b) = c ≡ boolean b
  IsPartOf c (items ts) = (c ≡ items ts) ⊎ IsInOne c ts
  IsPartOf c (fields n ts) = (c ≡ fields n ts) ⊎ IsInOne c ts

  pub IsInOne : Tree → Trees → Type 0
  IsInOne c none = ⊥
  IsInOne c (more t ts) = IsPartOf c t ⊎ IsInOne c ts

-- how many components stand in a tree, whatever its rows are
unfoldable mutual
  pub count_in : Tree → ℕ
  count_in absent = 0
  count_in (text s) = 0
  count_in (number n) = 0
  count_in (boolean b) = 0
  count_in (items ts) = count_in_each ts
  count_in (fields n ts) = (if is_component n then 1 else 0) + count_in_each ts

  pub count_in_each : Trees → ℕ
  count_in_each none = 0
  count_in_each (more t ts) = count_in t + count_in_each ts

-- Every component of a bill is listed, under every path that leads to it, and there are as many paths as components. So
-- one that stands at several places is listed for each.
abbrev pub ListsAll : Type 0
ListsAll = (b : Tree) → HasBillShape b
    → ((ts : Trees) → IsPartOf (fields component ts) b → (p : List Step) × Contains (listed b) (p, fields component ts))
    × ((p : List Step) (ts : Trees) → found b a_bill p ≡ Some (fields component ts) → Contains (listed b) (p, fields component ts))
    × (length (listed b) ≡ count_in b)

-- what stays of a component: its path, its name and its version
pub record Remained : Type 0 where
  pub path : List Step
  pub name : List ℕ
  pub version : Option (List ℕ)

abbrev pub remained : At Tree → Remained
remained x = record { path = x.0; name = component_name x.1; version = component_version x.1 }

abbrev pub the_tools : List Step
the_tools = to_member (codes "metadata") ∷ to_member (codes "tools") ∷ []

abbrev pub is_outside : List Step → At Tree → Bool
is_outside p x = not (begins p x.0)

-- Before 1.5 there is no tools object.
abbrev pub outside_tools : SpecVersion → List (At Tree) → List (At Tree)
outside_tools V1_3 xs = filter (is_outside the_tools) xs
outside_tools V1_4 xs = filter (is_outside the_tools) xs
outside_tools V1_5 xs = xs

-- What a version keeps lists the components at the same paths in the same order, save those of a tools object before
-- 1.5. Their names and versions stay.
abbrev pub ListsKept : Type 0
ListsKept = (b : Tree) (w : SpecVersion) → HasBillShape b
    → map remained (listed (keep w b a_bill)) ≡ map remained (outside_tools w (listed b))
