-- What the search for a floating-point number answers.
use Rattle.std.specs.Prelude.{ℕ, List, if◌then◌else◌, Option, Some, None, Result, Ok, Err}
use Rattle.std.specs.Str.{bytes_eq}
use Rattle.serde_json.specs.Data.{Data, Members, no_members, member}
use Rattle.cdx_models.specs.declared.errors.Step.{Step}
use Rattle.cdx_schema.specs.Faults.{is_float, to_member, JsonFault}
use Rattle.cdx_schema.specs.JsonReading.{first_float, or_else, behind}

-- nothing is read
abbrev pub to_unit : {A : Type 0} → A → Unit {0}
to_unit x = tt

-- the fault of a float at this path
abbrev pub unless_float : Option (List Step) → Result (Unit {0}) JsonFault
unless_float None = Ok tt
unless_float (Some p) = Err (record { path = p; cause = is_float })

-- the first float of a member with this name, where there is one
abbrev pub float_under : List ℕ → Option Data → Option (List Step)
float_under name None = None
float_under name (Some x) = behind (to_member name) (first_float x)

-- the first float of the members before the one with this name
abbrev pub float_before : List ℕ → Members → Option (List Step)
float_before name no_members = None
float_before name (member l x ms) = if bytes_eq l name then None else or_else (behind (to_member l) (first_float x)) (float_before name ms)
