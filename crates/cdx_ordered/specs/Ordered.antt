-- Values whose members stand in order.
use Rattle.std.specs.Prelude.{◌≡◌, ◌<◌, ◌≤◌, ◌^◌, ℕ, List, true, false, Some, ⊤}
use Rattle.std.specs.Ordering.{nat_cmp}
use Rattle.std.proofs.Common.{Less}
use Rattle.std.specs.Cmp.Lexicographic.{slice_cmp}
use Rattle.serde_json.specs.Data.{Num, unsigned, Data, null, boolean, number, string, array, object, Items, no_items, item, Members, no_members, member, depth}
use Rattle.serde_json.specs.Read.{read, max_depth}
use Rattle.serde_json.specs.Written.{compact_text}

-- ---- values whose members stand in order, each name once, and whose numbers fit 64 bits

abbrev pub IsBelow : List ℕ → Members → Type 0
IsBelow k no_members = ⊤
IsBelow k (member l d ms) = (slice_cmp nat_cmp k l ≡ Less) × IsBelow k ms

abbrev pub IsNatural : Num → Type 0
IsNatural (unsigned n) = n < 2 ^ 64
IsNatural _ = true ≡ false

abbrev mutual
  pub IsOrdered : Data → Type 0
  IsOrdered null = ⊤
  IsOrdered (boolean b) = ⊤
  IsOrdered (number n) = IsNatural n
  IsOrdered (string s) = ⊤
  IsOrdered (array ds) = AreItemsOrdered ds
  IsOrdered (object ms) = AreOrdered ms

  pub AreItemsOrdered : Items → Type 0
  AreItemsOrdered no_items = ⊤
  AreItemsOrdered (item d ds) = IsOrdered d × AreItemsOrdered ds

  pub AreOrdered : Members → Type 0
  AreOrdered no_members = ⊤
  AreOrdered (member k d ms) = IsBelow k ms × (IsOrdered d × AreOrdered ms)

-- ---- the law

-- The text of a value in order, which nests no deeper than is read, is read as the value.
abbrev pub ReadsBack : Type 0
ReadsBack = (d : Data) → IsOrdered d → depth d ≤ max_depth → read (compact_text d) ≡ Some d
