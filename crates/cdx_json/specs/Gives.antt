-- What a reader and a writer answer.
use Rattle.std.specs.Prelude.{◌≡◌, List, ◌∷◌, Option, Some, None, Result, Ok, Err, if◌then◌else◌, Bool, true, false}
use Rattle.serde_json.specs.Data.{Data}
use Rattle.serde_json.specs.Data as json
use Rattle.cdx_models.specs.declared.errors.Step.{Step}
use Rattle.cdx_models.specs.declared.errors.JsonKind.{JsonKind}
use Rattle.cdx_models.specs.declared.errors.JsonReadError.{JsonReadError}
use Rattle.cdx_models.specs.declared.errors.JsonReadError.TheVariants.{JsonElementReadError, BomError, Memory}
use Rattle.cdx_models.specs.declared.errors.JsonWriteError.{JsonWriteError}
use Rattle.cdx_models.specs.declared.errors.JsonWriteError.TheVariants as write
use Rattle.cdx_schema.specs.Faults.{JsonFault}
use Rattle.cdx_schema.specs.JsonReading.{Found, nothing, a_null, found}

abbrev pub fault : List Step → JsonKind → JsonFault
fault p k = record { path = p; cause = k }

-- The error is this fault, or want of memory.
abbrev pub Fails : {Y : Type 0} → JsonReadError → Result Y JsonFault → Type 0
Fails (Memory m) r = Unit {0}
Fails (JsonElementReadError path kind) r = r ≡ Err (fault path.0 kind)
Fails (BomError b) r = ⊥

-- What a reader answered, seen by `see`, is what the definition gives, unless memory ran out.
abbrev pub Gives : {X Y : Type 0} → (X → Y) → Result X JsonReadError → Result Y JsonFault → Type 0
Gives see (Ok x) r = r ≡ Ok (see x)
Gives see (Err e) r = Fails e r

-- What a writer made is so; it refuses only for want of memory.
abbrev pub Makes : {X : Type 0} → Result X JsonWriteError → (X → Type 0) → Type 0
Makes (Ok x) P = P x
Makes (Err (write.Memory m)) P = Unit {0}
Makes (Err (write.JsonElementWriteError n)) P = ⊥
Makes (Err (write.BomError b)) P = ⊥

-- The error is of this kind, at this path.
abbrev pub IsFaultAt : List Step → JsonKind → JsonReadError → Type 0
IsFaultAt p k (Memory m) = Unit {0}
IsFaultAt p k (JsonElementReadError path kind) = (path.0 ≡ p) × (kind ≡ k)
IsFaultAt p k (BomError b) = ⊥

-- The error `new` is `old`, seen from the value that holds the part.
abbrev pub IsWithin : Step → JsonReadError → JsonReadError → Type 0
IsWithin s old (Memory m) = Unit {0}
IsWithin s (Memory m) (JsonElementReadError path kind) = ⊥
IsWithin s (BomError b) (JsonElementReadError path kind) = ⊥
IsWithin s (JsonElementReadError old k) (JsonElementReadError path kind) = (path.0 ≡ s ∷ old.0) × (kind ≡ k)
IsWithin s (Memory m) (BomError c) = ⊥
IsWithin s (BomError b) (BomError c) = Unit {0}
IsWithin s (JsonElementReadError old k) (BomError c) = ⊥

-- Something stands there, maybe a null.
abbrev pub is_member_there : Found → Bool
is_member_there nothing = false
is_member_there a_null = true
is_member_there (found read) = true

-- Something stands there that is no null.
abbrev pub is_found : Found → Bool
is_found nothing = false
is_found a_null = false
is_found (found read) = true

abbrev pub is_null : Data → Bool
is_null json.null = true
is_null (json.boolean b) = false
is_null (json.number n) = false
is_null (json.string s) = false
is_null (json.array xs) = false
is_null (json.object ms) = false

-- a member that is there and not null
abbrev pub non_null : Option Data → Option Data
non_null None = None
non_null (Some x) = if is_null x then None else Some x
