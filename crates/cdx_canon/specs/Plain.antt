-- Where a bill and its plain bill differ but for the label.
use Rattle.std.specs.Prelude.{◌≡◌, ◌≤◌, ℕ, List, [], ◌∷◌, length, take, Bool, true, false, Option, Some, None}
use Rattle.std.specs.Io.KnownBytes.{Appends}
use Rattle.cdx_events.specs.Causes.{Rose}
use Rattle.cdx_models.specs.declared.errors.JsonWriteError.{JsonWriteError}
use Rattle.cdx_models.specs.declared.errors.JsonWriteError.TheVariants as write
use Rattle.serde_json.specs.Data.{Data, object, put}
use Rattle.cdx_nest.specs.declared.tools.Tools.{Tools}
use Rattle.cdx_nest.specs.declared.tools.Tools.TheVariants as variant

-- a tool list without a tool
abbrev pub is_no_tool : Option Tools → Bool
is_no_tool None = false
is_no_tool (Some (variant.List [])) = true
is_no_tool (Some (variant.List (x ∷ xs))) = false
is_no_tool (Some (variant.Object ss cs)) = false

-- the object with a member set anew
abbrev pub with_part : List ℕ → Data → Data → Data
with_part k x (object ms) = object (put k x ms)
with_part k x d = d

-- Why a text was not written, and what went out: nothing where memory ran out, and with a sink's fault, whose count then
-- rose, so many of the text's first bytes.
abbrev pub IsUnput : {K : Type 0} → List ℕ → (K → Option (List ℕ)) → (K → ℕ) → K → K → JsonWriteError → Type 0
IsUnput s written faults before now (write.BomError e) = ⊥
IsUnput s written faults before now (write.Memory m) = now ≡ before
IsUnput s written faults before now (write.JsonElementWriteError n) = (n ≤ length s) × Appends (written before) (written now) (take n s) × Rose (faults before) (faults now)
