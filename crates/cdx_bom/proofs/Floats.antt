-- The search for a floating-point number, before a document is read.
use Rattle.std.proofs.Common.{◌≡◌, List, Option, Some, None, Result, Ok, Err, IfOk, ap}
use Rattle.serde_json.specs.Data.{Data}
use Rattle.serde_json.specs.View.{view}
use Rattle.serde_json.specs.declared.value.Value.{Value}
use Rattle.cdx_models.specs.declared.errors.Step.{Step}
use Rattle.cdx_models.specs.declared.errors.JsonKind.TheVariants.{Float}
use Rattle.cdx_models.specs.declared.errors.JsonReadError.{JsonReadError}
use Rattle.cdx_models.specs.declared.errors.JsonReadError.TheVariants.{JsonElementReadError, BomError, Memory}
use Rattle.cdx_models.specs.declared.bom.SpecVersion.{SpecVersion}
use Rattle.cdx_models.specs.Trees.{Tree}
use Rattle.cdx_schema.specs.Kinds.{a_bill}
use Rattle.cdx_schema.specs.Depth.{top}
use Rattle.cdx_schema.specs.Laws.{JsonDenotesBills, IsShallow}
use Rattle.cdx_schema.specs.Faults.{JsonFault}
use Rattle.cdx_schema.specs.JsonReading.{first_float, json_denotes, jread}
use Rattle.cdx_json.specs.Gives.{Fails, Gives, fault}
use Rattle.cdx_owned.specs.Floats.{unless_float}
use Rattle.cdx_owned.proofs.FloatSearch.{free}

abbrev float_or : Option (List Step) → Result Tree JsonFault → Result Tree JsonFault
float_or None r = r
float_or (Some p) r = Err (record { path = p; cause = Float })

stopped : (e : JsonReadError) (o : Option (List Step)) (r : Result Tree JsonFault) → Fails e (unless_float o) → Fails e (float_or o r)
stopped (Memory m) o r h = tt
stopped (BomError b) o r h = absurd h
stopped (JsonElementReadError path kind) None r h = absurd cc
stopped (JsonElementReadError path kind) (Some p) r h =
    let same : fault p Float ≡ fault path.0 kind = cc in ap Err same

pub float_first : (e : JsonReadError) (x : Data) (v : SpecVersion) → Fails e (unless_float (first_float x)) → Fails e (json_denotes x v)
float_first e x v h = stopped e (first_float x) (jread x v a_bill top) h

pub read_after : {X : Type 0} (see : X → Tree) (r : Result X JsonReadError) (x : Data) (v : SpecVersion) → unless_float (first_float x) ≡ Ok tt → Gives see r (jread x v a_bill top) → Gives see r (json_denotes x v)
read_after see r x v e h = rw (free (first_float x) e) h

-- every bill so read is shallow
pub read_shallow : {X : Type 0} (see : X → Tree) (r : Result X JsonReadError) (x : Value) (v : SpecVersion) → JsonDenotesBills → Gives see r (json_denotes (view x) v) → IfOk r (λ b. IsShallow (see b))
read_shallow see (Ok b) x v law h = (law x v (see b) h).1
read_shallow see (Err e) x v law h = tt
