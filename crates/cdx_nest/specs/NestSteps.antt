-- The answers of the machine of a kind.
use Rattle.std.specs.Prelude.{◌≡◌, Option, Some, None, Result, Ok, Err}
use Rattle.cdx_models.specs.declared.errors.XmlReadError.{XmlReadError}
use Rattle.cdx_models.specs.declared.errors.XmlReadError.TheVariants.{Memory}
use Rattle.cdx_nest.specs.declared.frames.NestKind.{NestKind}
use Rattle.cdx_nest.specs.declared.frames.NestValue.{NestValue}
use Rattle.cdx_nest.specs.declared.frames.NestStep.{NestStep}
use Rattle.cdx_nest.specs.declared.frames.NestStep.TheVariants.{More, Done}
use Rattle.cdx_nest.specs.Frames.{value_kind}

-- A value is of the kind.
abbrev pub IsOfKind : NestKind → NestStep → Type 0
IsOfKind k More = Unit {0}
IsOfKind k (Done x) = value_kind x ≡ k

abbrev pub as_step : NestStep → Option NestValue
as_step More = None
as_step (Done x) = Some x

abbrev pub step_or_fault : Result NestStep XmlReadError → Result (Option NestValue) XmlReadError
step_or_fault (Ok s) = Ok (as_step s)
step_or_fault (Err e) = Err e

abbrev pub IsMore : Result NestStep XmlReadError → Type 0
IsMore (Ok More) = Unit {0}
IsMore (Ok (Done x)) = ⊥
IsMore (Err e) = ⊥

-- Memory was lacking.
abbrev pub IsMemory : Result NestStep XmlReadError → Type 0
IsMemory (Err (Memory m)) = Unit {0}
IsMemory r = ⊥
