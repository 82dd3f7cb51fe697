-- What a bill is written as, and why it may not be.
use Rattle.std.specs.Prelude.{◌≡◌, ◌≤◌, ℕ, List, length, take, false, Option, Result, Ok, Err}
use Rattle.std.specs.Io.KnownBytes.{Appends}
use Rattle.serde_json.specs.Data.{Data}
use Rattle.serde_json.specs.Written.{compact_text}
use Rattle.cdx_events.specs.Causes.{Rose}
use Rattle.cdx_models.specs.declared.bom.SpecVersion.{SpecVersion}
use Rattle.cdx_models.specs.declared.bom.SpecVersion.TheVariants.{V1_3}
use Rattle.cdx_models.specs.declared.errors.Lack.TheVariants.{VersionMissing}
use Rattle.cdx_models.specs.declared.errors.BomError.{BomError}
use Rattle.cdx_models.specs.declared.errors.BomError.TheVariants.{JsonSerializationError, XmlSerializationError, BomSerializationError, UnsupportedSpecVersion, Memory as bom_memory}
use Rattle.cdx_models.specs.declared.errors.JsonWriteError.{JsonWriteError}
use Rattle.cdx_models.specs.declared.errors.JsonWriteError.TheVariants as write
use Rattle.cdx_models.specs.Trees.{Tree}
use Rattle.cdx_schema.specs.Kinds.{a_bill}
use Rattle.cdx_schema.specs.Keeping.{keep, fits}
use Rattle.cdx_schema.specs.JsonSpelling.{jspell}
use Rattle.cdx_schema.specs.Laws.{Fits}

-- what the version keeps of a bill, as JSON and as its text
abbrev pub kept_json : SpecVersion → Tree → Data
kept_json w b = jspell (keep w b a_bill) w a_bill

abbrev pub compact_kept : SpecVersion → Tree → List ℕ
compact_kept w b = compact_text (kept_json w b)

-- The version is 1.3, and a component of the bill lacks a version.
abbrev pub LacksVersion : SpecVersion → Tree → BomError → Type 0
LacksVersion w b (BomSerializationError v VersionMissing) = (v ≡ V1_3) × (w ≡ V1_3) × (fits w b a_bill ≡ false)
LacksVersion w b (JsonSerializationError s) = ⊥
LacksVersion w b (XmlSerializationError s) = ⊥
LacksVersion w b (UnsupportedSpecVersion s) = ⊥
LacksVersion w b (bom_memory m) = ⊥

-- What is written is as P says, of a bill that fits. A bill that doesn't fit is refused for that alone.
abbrev pub Outputs : {X : Type 0} → Result X JsonWriteError → SpecVersion → Tree → (X → Type 0) → Type 0
Outputs (Ok x) w b P = Fits w b × P x
Outputs (Err (write.BomError e)) w b P = LacksVersion w b e
Outputs (Err (write.Memory m)) w b P = Unit {0}
Outputs (Err (write.JsonElementWriteError n)) w b P = ⊥

-- Why a text was not written, and what went out. Where the bill doesn't fit, or memory ran out, the sink is as before.
-- A sink's fault comes only where its count rose, after so many of the text's first bytes.
abbrev pub IsRefused : {K : Type 0} → SpecVersion → Tree → (K → Option (List ℕ)) → (K → ℕ) → K → K → JsonWriteError → Type 0
IsRefused w b written faults before now (write.BomError e) = LacksVersion w b e × (now ≡ before)
IsRefused w b written faults before now (write.Memory m) = now ≡ before
IsRefused w b written faults before now (write.JsonElementWriteError n) =
    Fits w b × (n ≤ length (compact_kept w b)) × Appends (written before) (written now) (take n (compact_kept w b)) × Rose (faults before) (faults now)
