-- The data that a spelling stands for.
use Rattle.std.specs.Prelude.{ℕ, List, [], ◌∷◌, map}
use Rattle.std.specs.Borrow.{Bor}
use Rattle.serde_json.specs.Data.{Data, boolean, number, unsigned, string, array, object, Items, no_items, item, Members, no_members, member, put}
use Rattle.serde_json.specs.View.{items_of}
use Rattle.cdx_json.specs.declared.spelling.Spelling.{Spelling, fold-Spelling}
use Rattle.cdx_json.specs.declared.spelling.Spelling.TheOpen.{Spelling-F}

abbrev pub named : List (Bor (List ℕ) × Data) → Members
named [] = no_members
named (m ∷ ms) = member m.0.now m.1 (named ms)

-- one level, with each spelling inside already as its data
abbrev pub spelling_step : Spelling-F Data → Data
spelling_step (Spelling-F.Bool b) = boolean b
spelling_step (Spelling-F.Number n) = number (unsigned n)
spelling_step (Spelling-F.Text s) = string s.now
spelling_step (Spelling-F.Array v) = array (items_of v.items)
spelling_step (Spelling-F.Object v) = object (named v.items)

abbrev pub spelling_data : Spelling → Data
spelling_data = fold-Spelling Data spelling_step

abbrev pub spelling_items : List Spelling → Items
spelling_items ss = items_of (map spelling_data ss)

abbrev pub spelling_members : List (Bor (List ℕ) × Spelling) → Members
spelling_members ms = named (map (λ m. (m.0, spelling_data m.1)) ms)

-- ---- The same data with the members of each object set one after another, as those of a value are.

abbrev mutual
  pub set_anew : Data → Data
  set_anew (array ds) = array (items_anew ds)
  set_anew (object ms) = object (members_anew ms no_members)
  set_anew d = d

  pub items_anew : Items → Items
  items_anew no_items = no_items
  items_anew (item d ds) = item (set_anew d) (items_anew ds)

  -- set among others
  pub members_anew : Members → Members → Members
  members_anew no_members others = others
  members_anew (member k d ms) others = members_anew ms (put k (set_anew d) others)
