-- What a bill is written as, and why it may not be.
use Rattle.std.proofs.Common.{◌≡◌, Bool, true, false, Result, Ok, Err, refl, sym, ◌∙◌}
use Rattle.cdx_models.specs.declared.bom.SpecVersion.{SpecVersion}
use Rattle.cdx_models.specs.declared.bom.SpecVersion.TheVariants.{V1_3, V1_4, V1_5}
use Rattle.cdx_models.specs.declared.errors.Lack.TheVariants.{VersionMissing}
use Rattle.cdx_models.specs.declared.errors.BomError.{BomError}
use Rattle.cdx_models.specs.declared.errors.BomError.TheVariants.{JsonSerializationError, XmlSerializationError, BomSerializationError, UnsupportedSpecVersion, Memory as bom_memory}
use Rattle.cdx_models.specs.declared.errors.JsonWriteError.{JsonWriteError}
use Rattle.cdx_models.specs.declared.errors.JsonWriteError.TheVariants as write
use Rattle.cdx_models.specs.Trees.{Tree}
use Rattle.cdx_models.specs.Versions.{is_first}
use Rattle.cdx_schema.specs.Kinds.{a_bill}
use Rattle.cdx_schema.specs.Keeping.{fits}
use Rattle.cdx_json.specs.Gives.{Makes}
use Rattle.cdx_bom.specs.Outputs.{LacksVersion, Outputs}

misfit : (w : SpecVersion) (b : Tree) → fits w b a_bill ≡ false → w ≡ V1_3
misfit V1_3 b h = refl
misfit V1_4 b h = absurd cc
misfit V1_5 b h = absurd cc

pub lacks_version : (w : SpecVersion) (b : Tree) (f : Bool) → f ≡ fits w b a_bill → f ≡ false → LacksVersion w b (BomSerializationError V1_3 VersionMissing)
lacks_version w b f is off = (refl, misfit w b (sym is ∙ off), sym is ∙ off)

pub outputs : {X : Type 0} (P : X → Type 0) (r : Result X JsonWriteError) (w : SpecVersion) (b : Tree) (f : Bool) → f ≡ fits w b a_bill → f ≡ true → Makes r P → Outputs r w b P
outputs P (Ok x) w b f is on h = (sym is ∙ on, h)
outputs P (Err (write.Memory m)) w b f is on h = tt
outputs P (Err (write.JsonElementWriteError n)) w b f is on h = absurd h
outputs P (Err (write.BomError e)) w b f is on h = absurd h

never_lacks : (w : SpecVersion) (b : Tree) (e : BomError) → is_first w ≡ false → LacksVersion w b e → ⊥
never_lacks V1_3 b e n h = absurd cc
never_lacks V1_4 b (BomSerializationError v VersionMissing) n h = absurd cc
never_lacks V1_5 b (BomSerializationError v VersionMissing) n h = absurd cc
never_lacks w b (JsonSerializationError s) n h = h
never_lacks w b (XmlSerializationError s) n h = h
never_lacks w b (UnsupportedSpecVersion s) n h = h
never_lacks w b (bom_memory m) n h = h

-- after 1.3 only want of memory is refused
pub always_makes : {X : Type 0} (P : X → Type 0) (r : Result X JsonWriteError) (w : SpecVersion) (b : Tree) → is_first w ≡ false → Outputs r w b P → Makes r P
always_makes P (Ok x) w b n h = h.1
always_makes P (Err (write.Memory m)) w b n h = tt
always_makes P (Err (write.JsonElementWriteError k)) w b n h = h
always_makes P (Err (write.BomError e)) w b n h = never_lacks w b e n h
