-- Values whose objects have their members in byte order of the names, each once.
use Rattle.std.specs.Prelude.{◌≡◌, ℕ, List, ⊤}
use Rattle.std.specs.Ordering.{nat_cmp}
use Rattle.std.proofs.Common.{Less}
use Rattle.std.specs.Cmp.Lexicographic.{slice_cmp}
use Rattle.serde_json.specs.Data.{Data, null, boolean, number, string, array, object, Items, no_items, item, Members, no_members, member}

-- the name is before all of these
abbrev pub IsBefore : List ℕ → Members → Type 0
IsBefore k no_members = ⊤
IsBefore k (member l d ms) = (slice_cmp nat_cmp k l ≡ Less) × IsBefore k ms

abbrev mutual
  pub IsInOrder : Data → Type 0
  IsInOrder null = ⊤
  IsInOrder (boolean b) = ⊤
  IsInOrder (number n) = ⊤
  IsInOrder (string s) = ⊤
  IsInOrder (array ds) = AreItemsInOrder ds
  IsInOrder (object ms) = AreInOrder ms

  pub AreItemsInOrder : Items → Type 0
  AreItemsInOrder no_items = ⊤
  AreItemsInOrder (item d ds) = IsInOrder d × AreItemsInOrder ds

  pub AreInOrder : Members → Type 0
  AreInOrder no_members = ⊤
  AreInOrder (member k d ms) = IsBefore k ms × (IsInOrder d × AreInOrder ms)
